-- Laws of `first`. Assumes nothing.
use mathlib.Core.Path.{◌≡◌, refl, ap}
use mathlib.Core.Bool.{Bool, true, false}
use Prim.Native.Nat.{ℕ, zero, suc, ◌≤◌, ◌<◌, zero-le}
use native.Mathlib.Nat.{not-suc-le-zero}
use native.Mathlib.Omega.{arith}
use Rattle.folds.specs.Fold.{pick, first}

pub first_found : (p : ℕ → Bool) (n i : ℕ) → i < n → ((k : ℕ) → k < i → p k ≡ false) → p i ≡ true → first p n ≡ i
unfolding first
first_found p zero i w h q = absurd (not-suc-le-zero w)
first_found p (suc n) zero w h q = rw q
first_found p (suc n) (suc i) w h q =
    rw (h zero (omega arith)) (ap suc (first_found (λ k. p (suc k)) n i (omega arith) (λ k v. h (suc k) (omega arith)) q))

pub first_none : (p : ℕ → Bool) (n : ℕ) → ((k : ℕ) → k < n → p k ≡ false) → first p n ≡ n
unfolding first
first_none p zero h = refl
first_none p (suc n) h = rw (h zero (omega arith)) (ap suc (first_none (λ k. p (suc k)) n (λ k v. h (suc k) (omega arith))))

pub first_below : (p : ℕ → Bool) (n k : ℕ) → k < first p n → p k ≡ false
unfolding first
first_below p zero k h = absurd (not-suc-le-zero h)
first_below p (suc n) k h = go (p zero) refl (λ j w. first_below (λ i. p (suc i)) n j w) k h
  where
    go : (b : Bool) → p zero ≡ b → ((j : ℕ) → j < first (λ i. p (suc i)) n → p (suc j) ≡ false) → (k : ℕ) → k < pick b zero (suc (first (λ i. p (suc i)) n)) → p k ≡ false
    go true e r k w = absurd (not-suc-le-zero w)
    go false e r zero w = e
    go false e r (suc k) w = r k (omega arith)

pub first_has : (p : ℕ → Bool) (n : ℕ) → first p n < n → p (first p n) ≡ true
unfolding first
first_has p zero h = absurd (not-suc-le-zero h)
first_has p (suc n) h = go (p zero) refl (λ w. first_has (λ i. p (suc i)) n w) h
  where
    go : (b : Bool) → p zero ≡ b → (first (λ i. p (suc i)) n < n → p (suc (first (λ i. p (suc i)) n)) ≡ true) → pick b zero (suc (first (λ i. p (suc i)) n)) < suc n → p (pick b zero (suc (first (λ i. p (suc i)) n))) ≡ true
    go true e r w = e
    go false e r w = r (omega arith)

pub first_le : (p : ℕ → Bool) (n : ℕ) → first p n ≤ n
unfolding first
first_le p zero = zero-le
first_le p (suc n) = go (p zero) (first_le (λ i. p (suc i)) n)
  where
    go : (b : Bool) → first (λ i. p (suc i)) n ≤ n → pick b zero (suc (first (λ i. p (suc i)) n)) ≤ suc n
    go true h = zero-le
    go false h = omega arith

-- tests that agree have one lowest number
pub first_same : (p q : ℕ → Bool) (n : ℕ) → ((i : ℕ) → i < n → p i ≡ q i) → first p n ≡ first q n
unfolding first
first_same p q zero e = refl
first_same p q (suc n) e = rw (e zero (omega arith), first_same (λ i. p (suc i)) (λ i. q (suc i)) n (λ i w. e (suc i) (omega arith)))
