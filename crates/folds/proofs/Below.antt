-- Numbers below a bound. Assumes nothing.
use mathlib.Core.Path.{◌≡◌, refl, ap}
use mathlib.Core.Logic.{◌⊎◌, inl, inr, ⊎_elim}
use Prim.Native.Nat.{ℕ, zero, suc, ◌≤◌, ◌<◌}
use native.Mathlib.Decide.{dec_lt}
use native.Mathlib.Omega.{arith}

-- below n + 1: below n, or n
pub below_cases : (i n : ℕ) → i < suc n → (i < n) ⊎ (i ≡ n)
below_cases zero zero h = inr refl
below_cases zero (suc n) h = inl (omega arith)
below_cases (suc i) zero h = inr (omega arith)
below_cases (suc i) (suc n) h = ⊎_elim (λ w. inl (omega arith)) (λ e. inr (ap suc e)) (below_cases i n (omega arith))

-- below, or not
pub lt_or_ge : (a b : ℕ) → (a < b) ⊎ (b ≤ a)
lt_or_ge a b = go (dec_lt a b)
  where
    go : Dec (a < b) → (a < b) ⊎ (b ≤ a)
    go (yes w) = inl w
    go (no n) = inr (omega arith)

-- equal, or not
pub eq_or_ne : (a b : ℕ) → (a ≡ b) ⊎ (a ≡ b → ⊥)
eq_or_ne a b =
    ⊎_elim (λ (l : a < b). inr (λ e. omega arith))
    (λ (l : b ≤ a). ⊎_elim (λ (m : b < a). inr (λ e. omega arith)) (λ (m : a ≤ b). inl (omega arith)) (lt_or_ge b a))
    (lt_or_ge a b)
