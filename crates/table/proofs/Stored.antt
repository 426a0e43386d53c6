-- Cells after a store, and two lists of cells that agree in every cell. Assumes nothing.
use mathlib.Core.List.{List}
use mathlib.Core.Logic.{⊎_elim}
use mathlib.Core.Path.{◌≡◌, sym, ◌∙◌}
use Prim.Native.Nat.{ℕ, ◌+◌, ◌*◌, ◌/◌, ◌%◌, ◌<◌}
use native.Mathlib.Omega.{arith}
use lib.ListN.{length, get_or, set}
use lib.Seq.{get_or-set_same, get_or-set_other, ext_get_or, set_out}
use Rattle.folds.specs.Fold.{always, listed}
use Rattle.folds.proofs.Gather.{listed_length, listed_get}
use Rattle.folds.proofs.All.{all_read, gather_all}
use Rattle.folds.proofs.Below.{lt_or_ge, eq_or_ne}
use Rattle.table.specs.Table.{place_of, cell_at}
use Rattle.table.proofs.Cells.{place_fits, place_test, place_column}

-- a store at a place, read there
pub cell_here : (cells : List ℕ) (t c v : ℕ) → length cells ≡ 1464 → t < 24 → c < 61 → cell_at (set cells (place_of t c) v) t c ≡ v
unfolding cell_at
cell_here cells t c v l h k = get_or-set_same cells (place_of t c) v 0 (rw l (place_fits t c h k))

-- and read at another one
pub cell_there : (cells : List ℕ) (t c v u d : ℕ) → t < 24 → c < 61 → u < 24 → d < 61 → (u ≡ t → d ≡ c → ⊥) → cell_at (set cells (place_of t c) v) u d ≡ cell_at cells u d
unfolding cell_at
cell_there cells t c v u d h k l m ne =
    get_or-set_other cells (place_of t c) (place_of u d) v 0 (λ e. ne (place_test u d t c l m h k e) (place_column u d t c l m h k e))

-- every place is that of a cell
place_back : (k : ℕ) → k < 1464 → (t : ℕ) × (c : ℕ) × (t < 24) × (c < 61) × (place_of t c ≡ k)
unfolding place_of
place_back k h = (k / 61, k % 61, omega arith, omega arith, omega arith)

pub cells_same : (a b : List ℕ) → length a ≡ 1464 → length b ≡ 1464 → ((t c : ℕ) → t < 24 → c < 61 → cell_at a t c ≡ cell_at b t c) → a ≡ b
unfolding cell_at
cells_same a b l m h =
    ext_get_or 0 a b (l ∙ sym m) λ k n.
    let p = place_back k (rw l at n) in
    rw p.4 at (h p.0 p.1 p.2 p.3)

-- what stands in a list after a store, by whether it is the place stored to
pub stored : (P : ℕ → Type 0) (xs : List ℕ) (i v k : ℕ) → i < length xs → (k ≡ i → P v) → ((k ≡ i → ⊥) → P (get_or xs k 0)) → P (get_or (set xs i v) k 0)
stored P xs i v k h f g =
    ⊎_elim (λ e. let q : get_or (set xs i v) k 0 ≡ v = rw e (get_or-set_same xs i v 0 h) in rw q (f e))
    (λ ne. rw (get_or-set_other xs i k v 0 ne) (g ne)) (eq_or_ne k i)

-- a store of a byte leaves bytes
pub stored_byte : (xs : List ℕ) (i v : ℕ) → v < 256 → ((k : ℕ) → get_or xs k 0 < 256) → (k : ℕ) → get_or (set xs i v) k 0 < 256
stored_byte xs i v h b k =
    ⊎_elim
    (λ l. stored (λ x. x < 256) xs i v k l (λ _. h) (λ _. b k))
    (λ l. rw (set_out xs i v l) (b k))
    (lt_or_ge i (length xs))

-- every cell of a list of bytes is one
pub cell_byte : (cells : List ℕ) → ((i : ℕ) → get_or cells i 0 < 256) → (t c : ℕ) → cell_at cells t c < 256
unfolding cell_at
cell_byte cells b t c = b (place_of t c)

-- a list of cells with given outputs
pub cells_of : (out : ℕ → ℕ → ℕ) → ((t c : ℕ) → out t c < 256) → (cells : List ℕ) × (length cells ≡ 1464) × ((t c : ℕ) → t < 24 → c < 61 → cell_at cells t c ≡ out t c) × ((i : ℕ) → get_or cells i 0 < 256)
unfolding cell_at place_of
cells_of out small = (listed f 1464, listed_length f 1464, read, bytes)
  where
    f : ℕ → ℕ
    f k = out (k / 61) (k % 61)

    read : (t c : ℕ) → t < 24 → c < 61 → get_or (listed f 1464) (t * 61 + c) 0 ≡ out t c
    read t c h k =
        let p : (t * 61 + c) / 61 ≡ t = omega arith in
        let q : (t * 61 + c) % 61 ≡ c = omega arith in
        listed_get f 1464 (t * 61 + c) (omega arith) ∙ rw (p, q)

    bytes : (i : ℕ) → get_or (listed f 1464) i 0 < 256
    bytes = all_read (λ x. x < 256) (omega arith) (listed f 1464) (gather_all (λ x. x < 256) always f 1464 (λ k l e. small (k / 61) (k % 61)))
