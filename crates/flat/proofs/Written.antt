-- The bytes of a table over the front of a lent buffer. Assumes nothing.
use mathlib.Core.List.{List, [], ◌∷◌, ◌++◌, append_assoc}
use mathlib.Core.Path.{◌≡◌, refl, sym, ◌∙◌}
use Prim.Native.Nat.{ℕ, ◌+◌, ◌-◌, ◌*◌, ◌/◌, ◌%◌, ◌≤◌, ◌<◌}
use native.Mathlib.Omega.{arith}
use borrow.Rule.Slice.PartMut.{put_mid}
use lib.ListN.{length, set, length-append}
use Rattle.std.specs.Prelude.{Ok, Err}
use Rattle.folds.specs.Fold.{onto}
use Rattle.folds.proofs.Gather.{listed_length}
use Rattle.folds.proofs.Onto.{onto_part}
use Rattle.table.specs.Table.{cell_at, output_at, place_of}
use Rattle.table.specs.declared.Refusal.TheVariants.{BufferShort}
use Rattle.table.specs.declared.Table.{Table}
use Rattle.flat.specs.Flat.{cell_of, label_of, bytes_of}
use Rattle.flat.specs.Writes.{Lays}
use Rattle.flat.proofs.Room.{lays_short, lays_all}
use Rattle.flat.proofs.Round.{listed_is}

pub bytes_long : (tb : Table) → length (bytes_of tb) ≡ 1586
unfolding bytes_of
bytes_long tb =
    simp length-append (omega (arith, listed_length (cell_of (output_at tb)) 1464, listed_length (label_of tb.lines) 60, listed_length (label_of tb.stuck) 60))

-- the cells lie as they are lent: both row by row
module _ (tb : Table) (cells_long : length tb.cells ≡ 1464) (lines_long : length tb.lines ≡ 60) (stuck_long : length tb.stuck ≡ 60) where
  bytes_are : bytes_of tb ≡ tb.tests ∷ tb.faults ∷ (tb.cells ++ (tb.lines ++ tb.stuck))
  unfolding bytes_of cell_of label_of cell_at place_of
  bytes_are = rw (
    listed_is (cell_of (output_at tb)) 1464 tb.cells cells_long (λ k l. let e : k / 61 * 61 + k % 61 ≡ k = omega arith in rw e refl),
    listed_is (label_of tb.lines) 60 tb.lines lines_long (λ f l. refl),
    listed_is (label_of tb.stuck) 60 tb.stuck stuck_long (λ f l. refl),
  ) refl

counts : (t f : ℕ) (d : List ℕ) → 2 ≤ length d → set (set d 0 t) 1 f ≡ onto (t ∷ f ∷ []) d
unfolding onto
counts t f [] h = absurd (omega arith)
counts t f (x ∷ []) h = absurd (omega arith)
counts t f (x ∷ y ∷ d) h = refl

-- a part behind what is written
part : (front row d s : List ℕ) (at n : ℕ) → s ≡ onto front d → at ≡ length front → n ≡ length row → put_mid at n s row ≡ onto (front ++ row) d
part front row d s at n e ea en = let k : at + n - at ≡ n = omega arith in onto_part front row d s _ at n e ea en (rw k refl)

module _ (tb : Table) (cells_long : length tb.cells ≡ 1464) (lines_long : length tb.lines ≡ 60) (stuck_long : length tb.stuck ≡ 60) (d : List ℕ) where
  parts : 1586 ≤ length d → put_mid 1526 60 (put_mid 1466 60 (put_mid 2 1464 (set (set d 0 tb.tests) 1 tb.faults) tb.cells) tb.lines) tb.stuck ≡ onto (bytes_of tb) d
  parts h =
      let a = counts tb.tests tb.faults d (omega arith) in
      let b = part (tb.tests ∷ tb.faults ∷ []) tb.cells d _ 2 1464 a refl (sym cells_long) in
      let c = part _ tb.lines d _ 1466 60 b (omega (arith, cells_long)) (sym lines_long) in
      let e = part _ tb.stuck d _ 1526 60 c (omega (arith, length-append tb.cells tb.lines, cells_long, lines_long)) (sym stuck_long) in
      e ∙ rw (bytes_are tb cells_long lines_long stuck_long, append_assoc tb.cells tb.lines tb.stuck) refl

  pub written_all : (place : ℕ) (cells lines stuck : List ℕ) → cells ≡ tb.cells → lines ≡ tb.lines → stuck ≡ tb.stuck → 1586 ≤ length d
      → Lays place (bytes_of tb) d (Ok place) (put_mid 1526 60 (put_mid 1466 60 (put_mid 2 1464 (set (set d 0 tb.tests) 1 tb.faults) cells) lines) stuck)
  written_all place cells lines stuck ec el es h =
      lays_all place (bytes_of tb) d _ (omega (arith, bytes_long tb)) (rw (ec, el, es) (parts h))

pub written_short : (tb : Table) (place : ℕ) (d : List ℕ) → length d < 1586 → Lays place (bytes_of tb) d (Err BufferShort) d
written_short tb place d h = lays_short place (bytes_of tb) d (omega (arith, bytes_long tb))
