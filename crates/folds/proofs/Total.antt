-- Laws of `total`. Assumes nothing.
use mathlib.Core.Path.{◌≡◌, refl, sym, ap, ap₂}
use mathlib.Core.Logic.{⊎_elim}
use Prim.Native.Nat.{ℕ, zero, suc, ◌+◌, ◌-◌, ◌≤◌, ◌<◌}
use native.Mathlib.Nat.{add-zero, add-suc}
use native.Mathlib.Omega.{arith}
use Rattle.folds.specs.Fold.{total}
use Rattle.folds.proofs.Below.{below_cases, eq_or_ne}

pub total_none : (f : ℕ → ℕ) → total f 0 ≡ 0
unfolding total
total_none f = refl

pub total_more : (f : ℕ → ℕ) (n : ℕ) → total f (suc n) ≡ total f n + f n
unfolding total
total_more f n = refl

pub total_same : (f g : ℕ → ℕ) (n : ℕ) → ((i : ℕ) → i < n → f i ≡ g i) → total f n ≡ total g n
unfolding total
total_same f g zero h = refl
total_same f g (suc n) h = ap₂ (λ (x y : ℕ). x + y) (total_same f g n (λ i l. h i (omega arith))) (h n (omega arith))

-- a longer sum is no less
pub total_grows : (f : ℕ → ℕ) (n m : ℕ) → n ≤ m → total f n ≤ total f m
unfolding total
total_grows f n m h = let e : n + (m - n) ≡ m = omega arith in rw e at (go (m - n))
  where
    go : (d : ℕ) → total f n ≤ total f (n + d)
    go zero = rw add-zero (omega arith)
    go (suc d) = rw add-suc (omega (arith, go d))

-- two functions that agree apart from one number
pub total_apart : (f g : ℕ → ℕ) (n t : ℕ) → t < n → ((i : ℕ) → (i ≡ t → ⊥) → f i ≡ g i) → total f n + g t ≡ total g n + f t
unfolding total
total_apart f g zero t l h = absurd (omega arith)
total_apart f g (suc n) t l h =
    ⊎_elim
    (λ e. omega (arith, total_same f g n (λ i m. h i (λ q. omega arith)), ap f e, ap g e))
    (λ ne. omega (arith, total_apart f g n t (omega arith) h, h n (λ q. ne (sym q)))) (eq_or_ne t n)

-- nothing more from n on
pub total_stays : (f : ℕ → ℕ) (n m : ℕ) → n ≤ m → ((i : ℕ) → n ≤ i → f i ≡ 0) → total f m ≡ total f n
unfolding total
total_stays f n m h z = let e : n + (m - n) ≡ m = omega arith in rw e at (go (m - n))
  where
    go : (d : ℕ) → total f (n + d) ≡ total f n
    go zero = rw add-zero
    go (suc d) = rw add-suc (omega (arith, go d, z (n + d) (omega arith)))

-- ---- number by number

pub total_two : (f g h : ℕ → ℕ) (n : ℕ) → ((i : ℕ) → f i + g i ≤ h i) → total f n + total g n ≤ total h n
unfolding total
total_two f g h zero e = omega arith
total_two f g h (suc n) e = omega (arith, total_two f g h n e, e n)

pub total_le : (f g : ℕ → ℕ) (n : ℕ) → ((i : ℕ) → f i ≤ g i) → total f n ≤ total g n
unfolding total
total_le f g zero e = omega arith
total_le f g (suc n) e = omega (arith, total_le f g n e, e n)

-- more by d at the number j
pub total_gap : (f g : ℕ → ℕ) (n j d : ℕ) → j < n → ((i : ℕ) → f i ≤ g i) → f j + d ≤ g j → total f n + d ≤ total g n
unfolding total
total_gap f g zero j d l e k = absurd (omega arith)
total_gap f g (suc n) j d l e k =
    ⊎_elim (λ m. omega (arith, total_gap f g n j d m e k, e n)) (λ q. omega (arith, total_le f g n e, ap f q, ap g q)) (below_cases j n l)
