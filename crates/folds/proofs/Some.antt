-- Laws of `some`. Assumes nothing.
use mathlib.Core.Bool.{Bool, true, false}
use mathlib.Core.Logic.{⊎_elim}
use mathlib.Core.Path.{◌≡◌, refl}
use Prim.Native.Nat.{ℕ, zero, suc, ◌<◌}
use native.Mathlib.Omega.{arith}
use Rattle.folds.specs.Fold.{either, some}
use Rattle.folds.proofs.Below.{below_cases}
use Rattle.folds.proofs.Bools.{clash, either_left, either_right}

module _ (p : ℕ → Bool) where
  pub some_of : (n i : ℕ) → i < n → p i ≡ true → some p n ≡ true
  unfolding some
  some_of zero i h q = absurd (omega arith)
  some_of (suc n) i h q =
      ⊎_elim (λ l. either_left _ _ (some_of n i l q)) (λ e. either_right (some p n) _ (rw e at q)) (below_cases i n h)

  pub some_at : (n : ℕ) → some p n ≡ true → (i : ℕ) × (i < n) × (p i ≡ true)
  unfolding some
  some_at zero h = clash false h refl
  some_at (suc n) h = go (some p n) refl (some_at n) h
    where
      go : (b : Bool) → some p n ≡ b → (some p n ≡ true → (i : ℕ) × (i < n) × (p i ≡ true)) → either b (p n) ≡ true → (i : ℕ) × (i < suc n) × (p i ≡ true)
      go true e r k = let w = r e in (w.0, omega (arith, w.1), w.2)
      go false e r k = (n, omega arith, k)
