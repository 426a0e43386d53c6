-- Laws of `count`, and the facts of a loop that counts. Assumes nothing.
use mathlib.Core.Path.{◌≡◌, refl, sym, ◌∙◌}
use mathlib.Core.Bool.{Bool, true, false}
use mathlib.Core.Logic.{⊎_elim}
use Prim.Native.Nat.{ℕ, zero, suc, ◌+◌, ◌-◌, ◌≤◌, ◌<◌}
use native.Mathlib.Nat.{le_refl}
use native.Mathlib.Numerals.{add-one}
use native.Mathlib.Omega.{arith}
use Rattle.folds.specs.Fold.{pick, count}
use Rattle.folds.proofs.Below.{below_cases}

pub count_none : (p : ℕ → Bool) → count p 0 ≡ 0
unfolding count
count_none p = refl

pub count_more : (p : ℕ → Bool) (i : ℕ) → count p (i + 1) ≡ count p i + pick (p i) 1 0
unfolding count
count_more p i = rw add-one

pub count_yes : (p : ℕ → Bool) (i : ℕ) → p i ≡ true → count p (i + 1) ≡ count p i + 1
count_yes p i h = rw (count_more, h)

pub count_no : (p : ℕ → Bool) (i : ℕ) → p i ≡ false → count p (i + 1) ≡ count p i
count_no p i h = rw (count_more, h) (omega arith)

one_at_most : (b : Bool) → pick {A = ℕ} b 1 0 ≤ 1
one_at_most true = omega arith
one_at_most false = omega arith

pub count_le : (p : ℕ → Bool) (n : ℕ) → count p n ≤ n
unfolding count
count_le p zero = omega arith
count_le p (suc n) = omega (arith, count_le p n, one_at_most (p n))

pub count_mono : (p : ℕ → Bool) (i n : ℕ) → i ≤ n → count p i ≤ count p n
unfolding count
count_mono p i zero h = let e : i ≡ 0 = omega arith in rw e (le_refl _)
count_mono p i (suc n) h =
    ⊎_elim (λ w. omega (arith, count_mono p i n (omega arith))) (λ e. rw e (le_refl _)) (below_cases i (suc n) (omega arith))

-- below i fewer have p than below n, where i has it and is below n
pub count_less : (p : ℕ → Bool) (i n : ℕ) → i < n → p i ≡ true → count p i + 1 ≤ count p n
count_less p i n w h = omega (arith, count_yes p i h, count_mono p (i + 1) n (omega arith))

-- each number below the count is the count at some place that has p: there are no gaps
pub count_reaches : (p : ℕ → Bool) (n k : ℕ) → k < count p n → (i : ℕ) × (i < n) × (p i ≡ true) × (count p i ≡ k)
unfolding count
count_reaches p zero k h = absurd (omega arith)
count_reaches p (suc n) k h = go (p n) refl (count_reaches p n k)
  where
    go : (b : Bool) → p n ≡ b → (k < count p n → (i : ℕ) × (i < n) × (p i ≡ true) × (count p i ≡ k)) → (i : ℕ) × (i < suc n) × (p i ≡ true) × (count p i ≡ k)
    go true e r =
        ⊎_elim (λ (w : k < count p n). let x = r w in (x.0, omega (arith, x.1), x.2, x.3))
        (λ (w : k ≡ count p n). (n, omega arith, e, sym w))
        (below_cases k (count p n) (let q : pick {A = ℕ} (p n) 1 0 ≡ 1 = rw e in omega arith))
    go false e r = let x = r (let q : pick {A = ℕ} (p n) 1 0 ≡ 0 = rw e in omega arith) in (x.0, omega (arith, x.1), x.2, x.3)

-- numbers above a alone have p: below i there are at most i - (a + 1)
pub count_above : (p : ℕ → Bool) (a : ℕ) → ((i : ℕ) → p i ≡ true → a < i) → (i : ℕ) → count p i ≤ i - (a + 1)
unfolding count
count_above p a h zero = omega arith
count_above p a h (suc i) = go (p i) refl (count_above p a h i)
  where
    go : (b : Bool) → p i ≡ b → count p i ≤ i - (a + 1) → count p i + pick b 1 0 ≤ suc i - (a + 1)
    go true e k = omega (arith, h i e)
    go false e k = omega arith

-- ---- a loop `for i in 0..n { if test(i) { k += 1; } }`, with the invariant k ≡ count p i

pub count_start : (p : ℕ → Bool) → 0 ≡ count p 0
count_start p = sym (count_none p)

pub count_up : (p : ℕ → Bool) (i k k' : ℕ) (r : Bool) → k ≡ count p i → r ≡ p i → r ≡ true → k' ≡ k + 1 → k' ≡ count p (i + 1)
count_up p i k k' r h e q f = omega (arith, count_yes p i (sym e ∙ q))

pub count_on : (p : ℕ → Bool) (i k k' : ℕ) (r : Bool) → k ≡ count p i → r ≡ p i → r ≡ false → k' ≡ k → k' ≡ count p (i + 1)
count_on p i k k' r h e q f = omega (arith, count_no p i (sym e ∙ q))

-- the counter fits: it is at most the number of turns
pub count_fits : (p : ℕ → Bool) (i k : ℕ) → k ≡ count p i → k ≤ i
count_fits p i k e = omega (arith, count_le p i)
