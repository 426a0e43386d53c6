-- A run over the rows of `joined`, from the first on. Assumes nothing.
use mathlib.Core.Bool.{Bool, true, false}
use mathlib.Core.List.{List, [], ◌++◌, append-nil, append_assoc}
use mathlib.Core.Path.{◌≡◌, refl, ap, ◌∙◌}
use Prim.Native.Nat.{ℕ, zero, suc, ◌+◌, ◌<◌}
use native.Mathlib.Nat.{add-zero}
use native.Mathlib.Numerals.{add-one}
use native.Mathlib.Omega.{arith}
use Rattle.folds.specs.Fold.{pick, joined}

module _ (p : ℕ → Bool) (g : ℕ → List ℕ) where
  -- n rows from row k
  unfoldable rows_from : ℕ → ℕ → List ℕ
  rows_from k zero = []
  rows_from k (suc n) = pick (p k) (g k) [] ++ rows_from (k + 1) n

  joined_split : (n k : ℕ) → joined p g (k + n) ≡ joined p g k ++ rows_from k n
  unfolding joined rows_from
  joined_split zero k = rw (add-zero, append-nil)
  joined_split (suc n) k =
      let e : k + suc n ≡ k + 1 + n = omega arith in
      ap (joined p g) e ∙ joined_split n (k + 1) ∙ rw (add-one, append_assoc)

  joined_from : (n : ℕ) → joined p g n ≡ rows_from 0 n
  unfolding joined
  joined_from n = let e : 0 + n ≡ n = omega arith in rw e at (joined_split n 0)

  -- A k of what lies ahead: a row that is taken, or passed over, leads from A k to A (k + 1)
  module _ (m : ℕ) (A : ℕ → List ℕ → Type 0)
      (took : (k : ℕ) (rest : List ℕ) → k < m → p k ≡ true → A k (g k ++ rest) → A (k + 1) rest)
      (passed : (k : ℕ) (rest : List ℕ) → k < m → p k ≡ false → A k rest → A (k + 1) rest) where
    run_from : (n k : ℕ) (rest : List ℕ) → k + n ≡ m → A k (rows_from k n ++ rest) → A m rest
    unfolding rows_from
    run_from zero k rest e a = let q : k ≡ m = omega arith in rw q at a
    run_from (suc n) k rest e a = run_from n (k + 1) rest (omega arith) (go (p k) refl (rw append_assoc at a))
      where
        go : (b : Bool) → p k ≡ b → A k (pick b (g k) [] ++ (rows_from (k + 1) n ++ rest)) → A (k + 1) (rows_from (k + 1) n ++ rest)
        go true t h = took k (rows_from (k + 1) n ++ rest) (omega arith) t h
        go false t h = passed k (rows_from (k + 1) n ++ rest) (omega arith) t h

    pub joined_run : (rest : List ℕ) → A 0 (joined p g m ++ rest) → A m rest
    joined_run rest a = run_from m 0 rest (omega arith) (rw joined_from at a)
