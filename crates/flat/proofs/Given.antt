-- The table that a call is given. Assumes nothing.
use mathlib.Core.List.{List}
use mathlib.Core.Path.{◌≡◌, refl, sym, ◌∙◌}
use Prim.Native.Nat.{ℕ, ◌+◌, ◌*◌, ◌≤◌}
use native.Mathlib.Omega.{arith}
use borrow.Author.Tests.{eq-eqb, ne_eqb}
use lib.ListN.{length, get_or}
use Rattle.std.specs.List.{between}
use Rattle.std.proofs.lemmas.List.Edits.{length-between, get_or-between}
use Rattle.folds.specs.Fold.{listed}
use Rattle.table.specs.Table.{cell_at, empty_table, place_of}
use Rattle.table.specs.declared.Table.{Table}
use Rattle.table.proofs.Stored.{cells_same}
use Rattle.flat.specs.Flat.{byte_at, cells_filled, table_of, no_table, lent_table}
use Rattle.flat.proofs.Round.{filled_at, filled_long, listed_is}

module _ (bytes : List ℕ) (long : length bytes ≡ 1586) where
  labels : (from to : ℕ) → to ≡ from + 60 → to ≤ 1586 → between from to bytes ≡ listed (byte_at bytes from) 60
  unfolding byte_at
  labels from to e h =
      sym (listed_is (byte_at bytes from) 60 (between from to bytes)
      (omega (arith, length-between bytes from to (omega arith)))
      (λ f l. sym (get_or-between bytes from to f 0 (omega arith))))

  -- the cells lie as they are lent: both row by row
  cells : between 2 1466 bytes ≡ cells_filled bytes 1464
  unfolding cell_at place_of
  cells = cells_same (between 2 1466 bytes) (cells_filled bytes 1464)
      (omega (arith, length-between bytes 2 1466 (omega arith)))
      (filled_long bytes 1464)
      (λ t c h l.
      let e : 2 + (t * 61 + c) ≡ t * 61 + c + 2 = omega arith in
      get_or-between bytes 2 1466 (t * 61 + c) 0 (omega arith) ∙ rw e (sym (filled_at bytes t c h l 1464 (omega arith) (omega arith))))

  pub table_right : (tests faults : ℕ) (cells' lines stuck : List ℕ) → tests ≡ get_or bytes 0 0 → faults ≡ get_or bytes 1 0
      → cells' ≡ between 2 1466 bytes → lines ≡ between 1466 1526 bytes → stuck ≡ between 1526 1586 bytes
      → record { tests = tests; faults = faults; cells = cells'; lines = lines; stuck = stuck } ≡ table_of bytes
  unfolding table_of
  table_right tests faults cells' lines stuck et ef ec el es =
      rw (et, ef, ec ∙ cells, el ∙ labels 1466 1526 refl (omega arith), es ∙ labels 1526 1586 refl (omega arith))

pub lent_none : (bytes : List ℕ) (empty : Table) → (length bytes ≡ 1586 → ⊥) → empty ≡ empty_table
    → record { tests = 25; faults = empty.faults; cells = empty.cells; lines = empty.lines; stuck = empty.stuck } ≡ lent_table bytes
unfolding lent_table no_table empty_table
lent_none bytes empty ne e = rw (ne_eqb (length bytes) 1586 ne, e) refl

pub lent_some : (bytes : List ℕ) (tb : Table) → length bytes ≡ 1586 → tb ≡ table_of bytes → tb ≡ lent_table bytes
unfolding lent_table
lent_some bytes tb l e = rw (eq-eqb (length bytes) 1586 l) e
