-- Laws of sums, and how long rows that are joined can be. Assumes nothing.
use mathlib.Core.Bool.{Bool, true, false}
use mathlib.Core.List.{List, []}
use mathlib.Core.Logic.{⊎_elim}
use mathlib.Core.Path.{◌≡◌, refl}
use Prim.Native.Nat.{ℕ, zero, suc, ◌+◌, ◌*◌, ◌≤◌, ◌<◌}
use native.Mathlib.Nat.{suc-mul}
use native.Mathlib.Omega.{arith}
use borrow.Author.Tests.{eq-eqb, ne_eqb}
use lib.Dec.{eqb}
use lib.ListN.{length, length-append}
use Rattle.folds.proofs.Below.{eq_or_ne}
use Rattle.folds.specs.Fold.{joined, pick, total}

pub total_zero : (f : ℕ → ℕ) (n : ℕ) → ((i : ℕ) → i < n → f i ≡ 0) → total f n ≡ 0
unfolding total
total_zero f zero h = refl
total_zero f (suc n) h = omega (arith, total_zero f n (λ i l. h i (omega arith)), h n (omega arith))

pub total_plus : (f g h : ℕ → ℕ) (n : ℕ) → ((i : ℕ) → h i ≡ f i + g i) → total h n ≡ total f n + total g n
unfolding total
total_plus f g h zero e = refl
total_plus f g h (suc n) e = omega (arith, total_plus f g h n e, e n)

-- at most k more each
pub total_most : (f g : ℕ → ℕ) (k n : ℕ) → ((i : ℕ) → i < n → f i ≤ k + g i) → total f n ≤ n * k + total g n
unfolding total
total_most f g k zero h = omega arith
total_most f g k (suc n) h = omega (arith, suc-mul n k, total_most f g k n (λ i l. h i (omega arith)), h n (omega arith))

-- the first summand apart
pub total_first : (f : ℕ → ℕ) (n : ℕ) → total f (suc n) ≡ f 0 + total (λ i. f (suc i)) n
unfolding total
total_first f zero = omega arith
total_first f (suc n) = omega (arith, total_first f n)

-- the row where the test holds
unfoldable pub when_length : Bool → List ℕ → ℕ
when_length b row = length (pick b row [])

-- a row that is taken for one number only
pub total_once : (v : ℕ) (row : List ℕ) (n : ℕ) → total (λ k. when_length (eqb v k) row) n ≤ length row
unfolding total when_length
total_once v row zero = omega arith
total_once v row (suc n) = ⊎_elim
    (λ (e : v ≡ n). rw (eq-eqb v n e) (omega (arith, total_zero (λ k. length (pick (eqb v k) row [])) n (λ i l. rw (ne_eqb v i (λ q. omega arith)) refl))))
    (λ (ne : v ≡ n → ⊥). rw (ne_eqb v n ne) (omega (arith, total_once v row n)))
    (eq_or_ne v n)

unfoldable pub length_of : (ℕ → List ℕ) → ℕ → ℕ
length_of g i = length (g i)

pub rows_more : (p : ℕ → Bool) (g : ℕ → List ℕ) (n : ℕ) → length (joined p g (suc n)) ≡ length (joined p g n) + when_length (p n) (g n)
unfolding joined when_length
rows_more p g n = length-append (joined p g n) (pick (p n) (g n) [])

pub rows_total : (p : ℕ → Bool) (g : ℕ → List ℕ) (n : ℕ) → length (joined p g n) ≤ total (length_of g) n
unfolding joined total length_of when_length
rows_total p g zero = omega arith
rows_total p g (suc n) = omega (arith, rows_more p g n, rows_total p g n, row (p n))
  where
    row : (b : Bool) → length (pick b (g n) []) ≤ length (g n)
    row true = omega arith
    row false = omega arith

pub rows_most : (p : ℕ → Bool) (g : ℕ → List ℕ) (k n : ℕ) → ((i : ℕ) → i < n → length (g i) ≤ k) → length (joined p g n) ≤ n * k
unfolding length_of
rows_most p g k n h = omega (arith, rows_total p g n, total_most (length_of g) (λ i. 0) k n (λ i l. omega (arith, h i l)), total_zero (λ i. 0) n (λ i l. refl))
