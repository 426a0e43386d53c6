-- Laws of a set's weight. Assumes nothing.
use mathlib.Core.Path.{◌≡◌, refl, sym, ap, ◌∙◌}
use mathlib.Core.Logic.{⊎_elim}
use Prim.Native.Nat.{ℕ, zero, suc, ◌+◌, ◌^◌, ◌≤◌, ◌<◌}
use native.Mathlib.Nat.{one-mul, zero-mul, add-mul, mul-le-mul_right}
use native.Mathlib.Numerals.{add-one}
use native.Mathlib.Omega.{arith}
use Rattle.folds.specs.Fold.{total, count}
use Rattle.folds.proofs.Count.{count_none, count_yes, count_no, count_le}
use Rattle.folds.proofs.Total.{total_same, total_apart, total_stays, total_none, total_more, total_two, total_gap}
use Rattle.sets.specs.Sets.{bit, has, share, weight, one, size}
use Rattle.sets.proofs.Bits.{bit_cases, bit_high, has_yes, has_no, top_bit, top_below, top_lt}
use Rattle.sets.proofs.Flip.{flip, flip_out, flip_in, flip_other}

module _ (w : ℕ → ℕ) where
  pub share_in : (s t : ℕ) → bit s t ≡ 1 → share w s t ≡ w t
  unfolding share
  share_in s t e = rw (e, one-mul)

  pub share_out : (s t : ℕ) → bit s t ≡ 0 → share w s t ≡ 0
  unfolding share
  share_out s t e = rw (e, zero-mul)

  pub share_same : (s s' t : ℕ) → bit s t ≡ bit s' t → share w s t ≡ share w s' t
  unfolding share
  share_same s s' t e = rw e

  -- a set with one test put in or taken out differs by what that test adds
  weight_flip : (s t : ℕ) → t < 24 → weight w s + share w (flip s t) t ≡ weight w (flip s t) + share w s t
  weight_flip s t l = total_apart (share w s) (share w (flip s t)) 24 t l (λ i ne. share_same s (flip s t) i (sym (flip_other s t i ne)))

  -- taking out test t makes the set lighter by that test's weight
  pub weight_out : (s t : ℕ) → t < 24 → bit s t ≡ 1 → weight w (flip s t) + w t ≡ weight w s
  weight_out s t l e = omega (arith, weight_flip s t l, share_in s t e, share_out (flip s t) t (flip_out s t e))

  -- putting in test t makes the set heavier by that test's weight
  pub weight_in : (s t : ℕ) → t < 24 → bit s t ≡ 0 → weight w (flip s t) ≡ weight w s + w t
  weight_in s t l e = omega (arith, weight_flip s t l, share_out s t e, share_in (flip s t) t (flip_in s t e))

  -- the tests from n on add nothing to a set below 2 ^ n
  pub weight_below : (n s : ℕ) → n ≤ 24 → s < 2 ^ n → weight w s ≡ total (share w s) n
  weight_below n s l h = total_stays (share w s) n 24 l (λ i m. share_out s i (bit_high s n i h m))

  -- one test more at the top
  pub weight_top : (c t : ℕ) → t < 24 → c < 2 ^ t → weight w (c + 2 ^ t) ≡ weight w c + w t
  weight_top c t l h =
      let a : weight w (c + 2 ^ t) ≡ total (share w (c + 2 ^ t)) (suc t) = weight_below (suc t) (c + 2 ^ t) (omega arith) (top_lt c t h) in
      let b : total (share w (c + 2 ^ t)) t ≡ total (share w c) t = total_same _ _ t (λ i m. share_same (c + 2 ^ t) c i (top_below c t i h m)) in
      omega (arith, weight_below t c (omega arith) h, total_more (share w (c + 2 ^ t)) t, share_in (c + 2 ^ t) t (top_bit c t h))

  pub weight_empty : weight w 0 ≡ 0
  weight_empty = weight_below 0 0 (omega arith) (omega arith) ∙ total_none (share w 0)

  -- ---- weights, test by test

  share_two : (a b s i : ℕ) → bit a i + bit b i ≤ bit s i → share w a i + share w b i ≤ share w s i
  unfolding share
  share_two a b s i h = rw (← add-mul (bit a i) (bit b i) (w i)) (mul-le-mul_right (w i) h)

  share_le : (a b i : ℕ) → bit a i ≤ bit b i → share w a i ≤ share w b i
  unfolding share
  share_le a b i h = mul-le-mul_right (w i) h

  pub weight_two : (a b s : ℕ) → ((i : ℕ) → bit a i + bit b i ≤ bit s i) → weight w a + weight w b ≤ weight w s
  weight_two a b s h = total_two (share w a) (share w b) (share w s) 24 (λ i. share_two a b s i (h i))

  -- a set with a test j more
  pub weight_more : (a b j : ℕ) → j < 24 → ((i : ℕ) → bit a i ≤ bit b i) → bit a j ≡ 0 → bit b j ≡ 1 → weight w a + w j ≤ weight w b
  weight_more a b j l h o e =
      total_gap (share w a) (share w b) 24 j (w j) l (λ i. share_le a b i (h i)) (omega (arith, share_out a j o, share_in b j e))

-- ---- each test weighs 1

pub one_is : (t : ℕ) → one t ≡ 1
unfolding one
one_is t = refl

pub one_positive : (t : ℕ) → 0 < one t
one_positive t = omega (arith, one_is t)

-- the weight is the number of tests
weight_counts : (s n : ℕ) → total (share one s) n ≡ count (has s) n
weight_counts s zero = total_none (share one s) ∙ sym (count_none (has s))
weight_counts s (suc n) =
    let q : count (has s) (n + 1) ≡ count (has s) (suc n) = ap (count (has s)) (add-one n) in
    ⊎_elim
    (λ e. omega (arith, weight_counts s n, total_more (share one s) n, share_out one s n e, count_no (has s) n (has_no s n e)))
    (λ e. omega (arith, weight_counts s n, total_more (share one s) n, share_in one s n e, one_is n, count_yes (has s) n (has_yes s n e)))
    (bit_cases s n)

pub size_counts : (n s : ℕ) → n ≤ 24 → s < 2 ^ n → size s ≡ count (has s) n
size_counts n s l h = weight_below one n s l h ∙ weight_counts s n

pub size_most : (s : ℕ) → s < 2 ^ 24 → size s ≤ 24
size_most s h = omega (arith, size_counts 24 s (omega arith) h, count_le (has s) 24)
