-- Laws of `every`. Assumes nothing.
use mathlib.Core.Path.{◌≡◌, refl}
use mathlib.Core.Bool.{Bool, true, false}
use mathlib.Core.Logic.{⊎_elim}
use Prim.Native.Nat.{ℕ, zero, suc, ◌<◌}
use native.Mathlib.Nat.{not-suc-le-zero}
use native.Mathlib.Omega.{arith}
use Rattle.folds.specs.Fold.{both, every}
use Rattle.folds.proofs.Bools.{both_true, both_left, both_right, both_false}
use Rattle.folds.proofs.Below.{below_cases}

pub every_none : (p : ℕ → Bool) → every p 0 ≡ true
unfolding every
every_none p = refl

pub every_fails : (p : ℕ → Bool) (n i : ℕ) → i < n → p i ≡ false → every p n ≡ false
unfolding every
every_fails p zero i h q = absurd (not-suc-le-zero h)
every_fails p (suc n) i h q =
    ⊎_elim (λ w. rw (every_fails p n i w q))
    (λ e. let r : p n ≡ false = rw e at q in rw (r, both_false))
    (below_cases i n h)

pub every_at : (p : ℕ → Bool) (n i : ℕ) → every p n ≡ true → i < n → p i ≡ true
unfolding every
every_at p zero i h w = absurd (not-suc-le-zero w)
every_at p (suc n) i h w =
    ⊎_elim (λ v. every_at p n i (both_left _ _ h) v) (λ e. rw e (both_right (every p n) (p n) h)) (below_cases i n w)

pub every_of : (p : ℕ → Bool) (n : ℕ) → ((i : ℕ) → i < n → p i ≡ true) → every p n ≡ true
unfolding every
every_of p zero h = refl
every_of p (suc n) h = both_true _ _ (every_of p n (λ i w. h i (omega arith))) (h n (omega arith))

-- where not every number has p, some number lacks it
pub every_lacks : (p : ℕ → Bool) (n : ℕ) → every p n ≡ false → (i : ℕ) × (i < n) × (p i ≡ false)
unfolding every
every_lacks p zero h = let z : ◌≡◌ {A = ℕ} 0 1 = cc in absurd (omega arith)
every_lacks p (suc n) h = go (every p n) refl (every_lacks p n) h
  where
    go : (b : Bool) → every p n ≡ b → (every p n ≡ false → (i : ℕ) × (i < n) × (p i ≡ false)) → both b (p n) ≡ false → (i : ℕ) × (i < suc n) × (p i ≡ false)
    go true e r k = (n, omega arith, k)
    go false e r k = let w = r e in (w.0, omega (arith, w.1), w.2)
