-- Laws of decimals: their value is the number, and none starts with a zero but 0's own. Assumes nothing.
use mathlib.Core.List.{List, [], ◌∷◌, ◌++◌}
use mathlib.Core.Logic.{⊎_elim}
use mathlib.Core.Path.{◌≡◌, refl, sym, ap, ◌∙◌}
use Prim.Native.Nat.{ℕ, zero, suc, ◌+◌, ◌-◌, ◌*◌, ◌/◌, ◌%◌, ◌^◌, ◌≤◌, ◌<◌}
use native.Mathlib.Nat.{pow-suc}
use native.Mathlib.Omega.{arith}
use borrow.Author.Tests.{le-ltb, lt-ltb}
use lib.ListN.{get_or, length, length-append, get_or-append}
use Rattle.folds.proofs.Below.{lt_or_ge}
use Rattle.text.specs.Text.{decimal_of, digits}

-- more digits than are needed change nothing
enough : (k m n : ℕ) → n < k → n < m → digits k n ≡ digits m n
unfolding digits
enough zero m n h l = absurd (omega arith)
enough (suc k) zero n h l = absurd (omega arith)
enough (suc k) (suc m) n h l = ⊎_elim
    (λ w. rw (lt-ltb n 10 w))
    (λ w. rw (le-ltb n 10 w, enough k m (n / 10) (omega arith) (omega arith)))
    (lt_or_ge n 10)

pub decimal_one : (n : ℕ) → n < 10 → decimal_of n ≡ (48 + n) ∷ []
unfolding decimal_of digits
decimal_one n h = rw (lt-ltb n 10 h)

pub decimal_more : (n : ℕ) → 10 ≤ n → decimal_of n ≡ decimal_of (n / 10) ++ ((48 + n % 10) ∷ [])
unfolding decimal_of digits
decimal_more n h = rw (le-ltb n 10 h) (ap (λ (l : List ℕ). l ++ ((48 + n % 10) ∷ [])) (enough n (suc (n / 10)) (n / 10) (omega arith) (omega arith)))

-- ---- by induction over the digits

module _ (P : ℕ → Type 0) (one : (n : ℕ) → n < 10 → P n) (more : (n : ℕ) → 10 ≤ n → P (n / 10) → P n) where
  below : (k n : ℕ) → n < k → P n
  below zero n h = absurd (omega arith)
  below (suc k) n h = ⊎_elim (λ w. one n w) (λ w. more n w (below k (n / 10) (omega arith))) (lt_or_ge n 10)

  pub by_digits : (n : ℕ) → P n
  by_digits n = below (suc n) n (omega arith)

-- the value of decimal digits
pub value_from : ℕ → List ℕ → ℕ
value_from v [] = v
value_from v (d ∷ ds) = value_from (v * 10 + (d - 48)) ds

value_append : (v d : ℕ) (ds : List ℕ) → value_from v (ds ++ (d ∷ [])) ≡ value_from v ds * 10 + (d - 48)
unfolding value_from
value_append v d [] = refl
value_append v d (x ∷ ds) = value_append (v * 10 + (x - 48)) d ds

pub decimal_value : (n : ℕ) → value_from 0 (decimal_of n) ≡ n
unfolding value_from
decimal_value = by_digits (λ n. value_from 0 (decimal_of n) ≡ n)
    (λ n h. rw (decimal_one n h) (omega arith))
    (λ n h e. rw (decimal_more n h, value_append, e) (omega arith))

some_digits : (n : ℕ) → 0 < length (decimal_of n)
some_digits = by_digits (λ n. 0 < length (decimal_of n))
    (λ n h. rw (decimal_one n h) (omega arith))
    (λ n h l. rw (decimal_more n h, length-append) (omega arith))

-- no leading zero
pub decimal_leads : (n : ℕ) → get_or (decimal_of n) 0 0 ≡ 48 → n ≡ 0
decimal_leads = by_digits (λ n. get_or (decimal_of n) 0 0 ≡ 48 → n ≡ 0)
    (λ n h e. let d : 48 + n ≡ 48 = rw (decimal_one n h) at e in omega arith)
    (λ n h more e. let d : n / 10 ≡ 0 = more (sym (get_or-append (decimal_of (n / 10)) ((48 + n % 10) ∷ []) 0 0 (some_digits (n / 10))) ∙ (rw (decimal_more n h) at e)) in absurd (omega arith))

-- a number below 10 ^ (k + 1) has at most k + 1 digits
pub decimal_length : (k n : ℕ) → n < 10 ^ suc k → length (decimal_of n) ≤ suc k
decimal_length zero n h = rw (decimal_one n (omega (arith, pow-suc 10 0))) (omega arith)
decimal_length (suc k) n h = ⊎_elim
    (λ w. rw (decimal_one n w) (omega arith))
    (λ w. rw (decimal_more n w, length-append) (omega (arith, decimal_length k (n / 10) (omega (arith, pow-suc 10 (suc k))))))
    (lt_or_ge n 10)
