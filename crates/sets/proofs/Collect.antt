-- Laws of `set_of`, the set of the numbers that have p, and the facts of the loop that makes it. Assumes nothing.
use mathlib.Core.Bool.{Bool, true, false, not}
use mathlib.Core.Logic.{⊎_elim}
use mathlib.Core.Path.{◌≡◌, refl, sym, ap, ◌∙◌}
use Prim.Native.Nat.{ℕ, zero, suc, ◌+◌, ◌*◌, ◌%◌, ◌^◌, ◌≤◌, ◌<◌}
use native.Mathlib.Nat.{add-zero, one-mul, mod-eq_of_lt, pow-suc}
use native.Mathlib.Numerals.{add-one}
use native.Mathlib.Omega.{arith}
use lib.Dec.{eqb}
use lib.Pow.{pow-lt}
use Rattle.folds.specs.Fold.{pick}
use Rattle.folds.proofs.Below.{below_cases}
use Rattle.sets.specs.Sets.{bit, has}
use Rattle.sets.specs.Collect.{with_test, set_of}
use Rattle.sets.proofs.Bits.{bit_high, bit_below, bits_equal, has_no, has_same, top_lt, top_bit, top_below}

-- ---- one test more at the top

pub with_in : (s t : ℕ) → with_test s t true ≡ s + 2 ^ t
unfolding with_test
with_in s t = refl

pub with_out : (s t : ℕ) → with_test s t false ≡ s
unfolding with_test
with_out s t = add-zero s

module _ (s t : ℕ) (h : s < 2 ^ t) where
  with_lt : (b : Bool) → with_test s t b < 2 ^ suc t
  with_lt true = rw with_in (top_lt s t h)
  with_lt false = rw with_out (omega (arith, pow-suc 2 t))

  with_at : (b : Bool) → bit (with_test s t b) t ≡ pick b 1 0
  with_at true = rw with_in (top_bit s t h)
  with_at false = rw with_out (bit_high s t t h (omega arith))

  with_below : (b : Bool) (i : ℕ) → i < t → bit (with_test s t b) i ≡ bit s i
  with_below true i l = rw with_in (top_below s t i h l)
  with_below false i l = rw with_out

-- a one shifted to test t, in a number of k bits
pub one_shl : (k t : ℕ) → t < k → 1 * 2 ^ t % 2 ^ k ≡ 2 ^ t
one_shl k t h = ap (λ (x : ℕ). x % 2 ^ k) (one-mul (2 ^ t)) ∙ mod-eq_of_lt (pow-lt h)

-- the set with it added is below the next power
pub up_lt : (k t s s' : ℕ) → t < k → s < 2 ^ t → s' ≡ s + 1 * 2 ^ t % 2 ^ k → s' < 2 ^ (t + 1)
up_lt k t s s' h l e = rw (add-one, e, one_shl k t h) (top_lt s t l)

pub on_lt : (t s s' : ℕ) → s < 2 ^ t → s' ≡ s → s' < 2 ^ (t + 1)
on_lt t s s' l e = rw add-one (omega (arith, pow-suc 2 t))

-- ---- the set of the numbers that have p

module _ (p : ℕ → Bool) where
  pub set_lt : (n : ℕ) → set_of p n < 2 ^ n
  unfolding set_of
  set_lt zero = omega arith
  set_lt (suc n) = with_lt (set_of p n) n (set_lt n) (p n)

  set_bit : (n t : ℕ) → t < n → bit (set_of p n) t ≡ pick (p t) 1 0
  unfolding set_of
  set_bit zero t h = absurd (omega arith)
  set_bit (suc n) t h =
      ⊎_elim (λ l. with_below (set_of p n) n (set_lt n) (p n) t l ∙ set_bit n t l)
      (λ e. rw e (with_at (set_of p n) n (set_lt n) (p n)))
      (below_cases t n h)

  -- of the numbers below n it holds those that have p, and no other
  pub set_tells : (n t : ℕ) → t < n → has (set_of p n) t ≡ p t
  unfolding has
  set_tells n t h = rw (set_bit n t h) (go (p t))
    where
      go : (b : Bool) → eqb (pick b 1 0) 1 ≡ b
      go true = refl
      go false = refl

  -- and is the only set that does
  pub set_is : (n s : ℕ) → s < 2 ^ n → ((t : ℕ) → t < n → has s t ≡ p t) → s ≡ set_of p n
  set_is n s h e = bits_equal n s (set_of p n) h (set_lt n) (λ t l. has_same s (set_of p n) t (e t l ∙ sym (set_tells n t l)))

  pub set_high : (n t : ℕ) → n ≤ t → has (set_of p n) t ≡ false
  set_high n t h = has_no (set_of p n) t (bit_high (set_of p n) n t (set_lt n) h)

  -- the same, bit by bit
  pub set_below : (n t : ℕ) → bit (set_of p n) t ≡ 1 → t < n
  set_below n t e = bit_below n (set_of p n) t (set_lt n) e

  pub set_has : (n t : ℕ) → bit (set_of p n) t ≡ 1 → p t ≡ true
  set_has n t e = go (p t) (sym (set_bit n t (set_below n t e)) ∙ e)
    where
      go : (b : Bool) → pick {A = ℕ} b 1 0 ≡ 1 → b ≡ true
      go true q = refl
      go false q = absurd (omega arith)

  pub set_in : (n t : ℕ) → t < n → p t ≡ true → bit (set_of p n) t ≡ 1
  set_in n t l e = set_bit n t l ∙ rw e

  -- with the set of those that lack p it makes up all of them
  pub set_others : (n : ℕ) → set_of (λ i. not (p i)) n + set_of p n + 1 ≡ 2 ^ n
  unfolding set_of with_test
  set_others zero = refl
  set_others (suc n) = go (p n) (set_others n)
    where
      go : (b : Bool) → set_of (λ i. not (p i)) n + set_of p n + 1 ≡ 2 ^ n
          → (set_of (λ i. not (p i)) n + pick (not b) (2 ^ n) 0) + (set_of p n + pick b (2 ^ n) 0) + 1 ≡ 2 ^ suc n
      go true e = omega (arith, pow-suc 2 n)
      go false e = omega (arith, pow-suc 2 n)

  -- ---- the loop `for i in 0..n { if test(i) { set += 1 << i; } }`, with the invariant set ≡ set_of p i

  pub set_start : 0 ≡ set_of p 0
  unfolding set_of
  set_start = refl

  pub set_turn : (i s s' : ℕ) (r : Bool) → s ≡ set_of p i → r ≡ p i → s' ≡ with_test s i r → s' ≡ set_of p (i + 1)
  unfolding set_of
  set_turn i s s' r e q h = rw add-one (h ∙ ap (λ (x : ℕ). with_test x i r) e ∙ ap (with_test (set_of p i) i) q)

  -- the set stays as it is where test(i) fails
  pub set_on : (i s s' : ℕ) (r : Bool) → s ≡ set_of p i → r ≡ p i → r ≡ false → s' ≡ s → s' ≡ set_of p (i + 1)
  set_on i s s' r e q t g = set_turn i s s' r e q (g ∙ rw (t, with_out))

-- the set takes test i in, in a number of k bits

module _ (k : ℕ) (p : ℕ → Bool) (i s : ℕ) (w : i < k) (e : s ≡ set_of p i) where
  pub set_up : (s' : ℕ) (r : Bool) → r ≡ p i → r ≡ true → s' ≡ s + 1 * 2 ^ i % 2 ^ k → s' ≡ set_of p (i + 1)
  set_up s' r q t g = set_turn p i s s' r e q (g ∙ rw (one_shl k i w, t, with_in))
