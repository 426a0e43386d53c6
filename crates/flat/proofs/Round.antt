-- The bytes of a table give the table back. Assumes nothing.
use mathlib.Core.List.{List, [], ◌∷◌, ◌++◌}
use mathlib.Core.Logic.{⊎_elim}
use mathlib.Core.Path.{◌≡◌, refl, sym, ◌∙◌}
use Prim.Native.Nat.{ℕ, zero, suc, ◌+◌, ◌*◌, ◌/◌, ◌%◌, ◌≤◌, ◌<◌}
use native.Mathlib.Omega.{arith}
use lib.ListN.{length, get_or, length-set, length-replicate, get_or-append}
use lib.Seq.{ext_get_or}
use Rattle.folds.specs.Fold.{listed}
use Rattle.folds.proofs.Below.{eq_or_ne}
use Rattle.folds.proofs.Gather.{listed_length, listed_get}
use Rattle.table.specs.Table.{cell_at, place_of, output_at}
use Rattle.table.specs.WellFormed.{OfType}
use Rattle.table.specs.declared.Table.{Table}
use Rattle.table.proofs.Stored.{cell_here, cell_there, cells_same}
use Rattle.flat.specs.Flat.{byte_at, cells_filled, table_of, cell_of, label_of, bytes_of}

-- a list by its entries
pub listed_is : (f : ℕ → ℕ) (n : ℕ) (xs : List ℕ) → length xs ≡ n → ((i : ℕ) → i < n → f i ≡ get_or xs i 0) → listed f n ≡ xs
listed_is f n xs long same =
    let m = listed_length f n in
    ext_get_or 0 (listed f n) xs (m ∙ sym long) λ i l.
    let h : i < n = rw m at l in
    listed_get f n i h ∙ same i h

pub filled_long : (bytes : List ℕ) (k : ℕ) → length (cells_filled bytes k) ≡ 1464
unfolding cells_filled
filled_long bytes zero = length-replicate {A = ℕ} 1464 0
filled_long bytes (suc k) = length-set (cells_filled bytes k) (place_of (k / 61) (k % 61)) (get_or bytes (k + 2) 0) ∙ filled_long bytes k

-- each lent cell is at its place
pub filled_at : (bytes : List ℕ) (t c : ℕ) → t < 24 → c < 61 → (k : ℕ) → k ≤ 1464 → t * 61 + c < k → cell_at (cells_filled bytes k) t c ≡ get_or bytes (t * 61 + c + 2) 0
unfolding cells_filled
filled_at bytes t c h l zero m v = absurd (omega arith)
filled_at bytes t c h l (suc k) m v =
    ⊎_elim
    (λ (e : t * 61 + c ≡ k).
    let et : k / 61 ≡ t = omega arith in
    let ec : k % 61 ≡ c = omega arith in
    rw (et, ec, e) (cell_here (cells_filled bytes k) t c (get_or bytes (k + 2) 0) (filled_long bytes k) h l))
    (λ (ne : t * 61 + c ≡ k → ⊥).
    cell_there (cells_filled bytes k) (k / 61) (k % 61) (get_or bytes (k + 2) 0) t c (omega arith) (omega arith) h l (λ p q. ne (omega arith))
    ∙ filled_at bytes t c h l k (omega arith) (omega (arith, ne)))
    (eq_or_ne (t * 61 + c) k)

-- what stands behind a list
behind : (xs ys : List ℕ) (i : ℕ) → get_or (xs ++ ys) (length xs + i) 0 ≡ get_or ys i 0
behind [] ys i = let e : 0 + i ≡ i = omega arith in rw e refl
behind (x ∷ xs) ys i = let e : suc (length xs) + i ≡ suc (length xs + i) = omega arith in rw e (behind xs ys i)

module _ (tb : Table) where
  cells : List ℕ
  cells = listed (cell_of (output_at tb)) 1464

  lines : List ℕ
  lines = listed (label_of tb.lines) 60

  stuck : List ℕ
  stuck = listed (label_of tb.stuck) 60

  past : (k : ℕ) → get_or (bytes_of tb) (2 + k) 0 ≡ get_or (cells ++ (lines ++ stuck)) k 0
  unfolding bytes_of cells lines stuck
  past k = let e : 2 + k ≡ suc (suc k) = omega arith in rw e refl

  cell_byte : (t c : ℕ) → t < 24 → c < 61 → get_or (bytes_of tb) (t * 61 + c + 2) 0 ≡ output_at tb t c
  unfolding cell_of cells
  cell_byte t c h l =
      let e : t * 61 + c + 2 ≡ 2 + (t * 61 + c) = omega arith in
      let et : (t * 61 + c) / 61 ≡ t = omega arith in
      let ec : (t * 61 + c) % 61 ≡ c = omega arith in
      rw e (past (t * 61 + c)
      ∙ get_or-append cells (lines ++ stuck) 0 (t * 61 + c) (omega (arith, listed_length (cell_of (output_at tb)) 1464))
      ∙ listed_get (cell_of (output_at tb)) 1464 (t * 61 + c) (omega arith) ∙ rw (et, ec) refl)

  line_byte : (f : ℕ) → f < 60 → byte_at (bytes_of tb) 1466 f ≡ get_or tb.lines f 0
  unfolding byte_at label_of cells lines
  line_byte f h =
      let e : 1466 + f ≡ 2 + (length cells + f) = omega (arith, listed_length (cell_of (output_at tb)) 1464) in
      rw e (past (length cells + f) ∙ behind cells (lines ++ stuck) f
      ∙ get_or-append lines stuck 0 f (omega (arith, listed_length (label_of tb.lines) 60)) ∙ listed_get (label_of tb.lines) 60 f h)

  stuck_byte : (f : ℕ) → f < 60 → byte_at (bytes_of tb) 1526 f ≡ get_or tb.stuck f 0
  unfolding byte_at label_of cells lines stuck
  stuck_byte f h =
      let e : 1526 + f ≡ 2 + (length cells + (length lines + f)) = omega (arith, listed_length (cell_of (output_at tb)) 1464, listed_length (label_of tb.lines) 60) in
      rw e (past (length cells + (length lines + f)) ∙ behind cells (lines ++ stuck) (length lines + f) ∙ behind lines stuck f ∙ listed_get (label_of tb.stuck) 60 f h)

  counts : (get_or (bytes_of tb) 0 0 ≡ tb.tests) × (get_or (bytes_of tb) 1 0 ≡ tb.faults)
  unfolding bytes_of
  counts = (refl, refl)

  -- `bytes_of` loses nothing, and `table_of` reads it back
  pub bytes_back : OfType tb → table_of (bytes_of tb) ≡ tb
  unfolding table_of
  bytes_back o =
      let c : cells_filled (bytes_of tb) 1464 ≡ tb.cells = cells_same _ _ (filled_long (bytes_of tb) 1464) o.cells_long (λ t c h l. filled_at (bytes_of tb) t c h l 1464 (omega arith) (omega arith) ∙ cell_byte t c h l) in
      rw (counts.0, counts.1, c, listed_is (byte_at (bytes_of tb) 1466) 60 tb.lines o.lines_long line_byte, listed_is (byte_at (bytes_of tb) 1526) 60 tb.stuck o.stuck_long stuck_byte) refl
