-- Laws of `bit`: which numbers have which bits. Assumes nothing.
use mathlib.Core.Path.{◌≡◌, refl, sym, ap, ◌∙◌, subst}
use mathlib.Core.Bool.{true, false}
use mathlib.Core.Logic.{◌⊎◌, inl, inr, ⊎_elim}
use Prim.Native.Nat.{ℕ, zero, suc, ◌+◌, ◌-◌, ◌*◌, ◌/◌, ◌%◌, ◌^◌, ◌≤◌, ◌<◌}
use native.Mathlib.Nat.{mod-lt, lt_of_lt_of_le, div-eq_of_lt, zero-lt-suc, mod-eq_of_lt, one-mul, zero-mul, div-one, mod-one, pow-suc, mul-mod_left}
use native.Mathlib.Numerals.{one-add}
use native.Mathlib.Omega.{arith}
use borrow.Author.Tests.{eq-eqb, ne_eqb, eqb-true, eqb-false, lt-ltb, le-ltb, ltb-true}
use lib.Arith.{bin_ind}
use lib.Dec.{eqb}
use lib.Pow.{pow_pos, pow_mono, mod-pow-add, mod-mod-pow, field, high, low, shr-shr, shl-shr, split}
use Rattle.folds.proofs.Below.{below_cases, lt_or_ge}
use Rattle.sets.specs.Sets.{bit, has, within, Within}

pub bit_lt : (s t : ℕ) → bit s t < 2
unfolding bit
bit_lt s t = mod-lt (s / 2 ^ t) (zero-lt-suc 1)

-- a test is out or in
pub bit_cases : (s t : ℕ) → (bit s t ≡ 0) ⊎ (bit s t ≡ 1)
bit_cases s t = go (bit s t) (bit_lt s t)
  where
    go : (b : ℕ) → b < 2 → (b ≡ 0) ⊎ (b ≡ 1)
    go zero h = inl refl
    go (suc b) h = inr (omega arith)

pub bit_out : (s t : ℕ) → (bit s t ≡ 1 → ⊥) → bit s t ≡ 0
bit_out s t h = ⊎_elim (λ e. e) (λ e. absurd (h e)) (bit_cases s t)

pub has_yes : (s t : ℕ) → bit s t ≡ 1 → has s t ≡ true
unfolding has
has_yes s t e = eq-eqb _ _ e

pub has_no : (s t : ℕ) → bit s t ≡ 0 → has s t ≡ false
unfolding has
has_no s t e = ne_eqb (bit s t) 1 (λ q. omega arith)

pub has_bit : (s t : ℕ) → has s t ≡ true → bit s t ≡ 1
unfolding has
has_bit s t e = eqb-true _ _ e

pub lacks_bit : (s t : ℕ) → has s t ≡ false → bit s t ≡ 0
unfolding has
lacks_bit s t e = bit_out s t (eqb-false _ _ e)

pub has_same : (s s' t : ℕ) → has s t ≡ has s' t → bit s t ≡ bit s' t
has_same s s' t e = ⊎_elim
    (λ x. x ∙ sym (lacks_bit s' t (sym e ∙ has_no s t x)))
    (λ x. x ∙ sym (has_bit s' t (sym e ∙ has_yes s t x)))
    (bit_cases s t)

-- ---- the tests below t

-- the tests up to t: those below t, and t
pub mod_suc : (s t : ℕ) → s % 2 ^ suc t ≡ bit s t * 2 ^ t + s % 2 ^ t
unfolding bit
mod_suc s t = ap (λ (k : ℕ). s % 2 ^ k) (sym (one-add t)) ∙ mod-pow-add s 1 t

pub mod_in : (s t : ℕ) → bit s t ≡ 1 → s % 2 ^ suc t ≡ 2 ^ t + s % 2 ^ t
mod_in s t e = mod_suc s t ∙ rw (e, one-mul)

pub mod_out : (s t : ℕ) → bit s t ≡ 0 → s % 2 ^ suc t ≡ s % 2 ^ t
mod_out s t e = mod_suc s t ∙ rw e (omega arith)

-- the tests below t are all in the remainder
pub bit_low : (s t i : ℕ) → i < t → bit (s % 2 ^ t) i ≡ bit s i
unfolding bit
bit_low s t i h =
    let e : t ≡ (t - (i + 1) + 1) + i = omega arith in
    subst (λ (k : ℕ). s % 2 ^ k / 2 ^ i % 2 ≡ s / 2 ^ i % 2) (sym e)
    (ap (λ (x : ℕ). x % 2) (field s (t - (i + 1) + 1) i) ∙ mod-mod-pow (s / 2 ^ i) (t - (i + 1)) 1)

pub bit_high : (s t i : ℕ) → s < 2 ^ t → t ≤ i → bit s i ≡ 0
unfolding bit
bit_high s t i h l = ap (λ (x : ℕ). x % 2) (div-eq_of_lt (lt_of_lt_of_le h (pow_mono l)))

pub bit_zero : (t : ℕ) → bit 0 t ≡ 0
bit_zero t = bit_high 0 0 t (omega arith) (omega arith)

-- a test of a set below 2 ^ n is below n
pub bit_below : (n s t : ℕ) → s < 2 ^ n → bit s t ≡ 1 → t < n
bit_below n s t h e = ⊎_elim (λ l. l) (λ l. absurd (omega (arith, bit_high s n t h l))) (lt_or_ge t n)

same_mod : (n s s' : ℕ) → ((t : ℕ) → t < n → bit s t ≡ bit s' t) → s % 2 ^ n ≡ s' % 2 ^ n
same_mod zero s s' h = mod-one s ∙ sym (mod-one s')
same_mod (suc n) s s' h =
    mod_suc s n
    ∙ ap (λ (x : ℕ). x * 2 ^ n + s % 2 ^ n) (h n (omega arith))
    ∙ ap (λ (x : ℕ). bit s' n * 2 ^ n + x) (same_mod n s s' (λ t l. h t (omega arith)))
    ∙ sym (mod_suc s' n)

-- two numbers below 2 ^ n with equal bits are equal
pub bits_equal : (n s s' : ℕ) → s < 2 ^ n → s' < 2 ^ n → ((t : ℕ) → t < n → bit s t ≡ bit s' t) → s ≡ s'
bits_equal n s s' h h' e = sym (mod-eq_of_lt h) ∙ same_mod n s s' e ∙ mod-eq_of_lt h'

-- ---- a number that is not 0 has a bit

bit_half : (n t : ℕ) → bit (n / 2) t ≡ bit n (suc t)
unfolding bit
bit_half n t = ap (λ (x : ℕ). x % 2) (shr-shr n 1 t ∙ ap (λ (k : ℕ). n / 2 ^ k) (one-add t))

bit_first : (n : ℕ) → bit n 0 ≡ n % 2
unfolding bit
bit_first n = ap (λ (x : ℕ). x % 2) (div-one n)

pub some_bit : (n : ℕ) → (n ≡ 0 → ⊥) → (t : ℕ) × (bit n t ≡ 1)
some_bit =
    bin_ind (λ (n : ℕ). (n ≡ 0 → ⊥) → (t : ℕ) × (bit n t ≡ 1)) (λ h. absurd (h refl))
    (λ n ih h. ⊎_elim (λ e. let r = ih (λ z. h (omega (arith, bit_first n))) in (suc r.0, sym (bit_half n r.0) ∙ r.1)) (λ e. (0, e)) (bit_cases n 0))

bit_shift : (s n t : ℕ) → bit (s / 2 ^ n) t ≡ bit s (n + t)
unfolding bit
bit_shift s n t = ap (λ (x : ℕ). x % 2) (shr-shr s n t)

-- nothing is left above n
pub shift_zero : (s n : ℕ) → s / 2 ^ n ≡ 0 → s < 2 ^ n
shift_zero s n e =
    let a : s / 2 ^ n * 2 ^ n ≡ 0 = ap (λ (x : ℕ). x * 2 ^ n) e ∙ zero-mul _ in
    omega (arith, split s n, mod-lt s (pow_pos n))

-- a set whose tests are all below n is below 2 ^ n
pub below_of_bits : (n s : ℕ) → Within (λ t. t < n) s → s < 2 ^ n
below_of_bits n s h = ⊎_elim
    (λ e. shift_zero s n e)
    (λ e. absurd (go e))
    (zero_or (s / 2 ^ n))
  where
    zero_or : (x : ℕ) → (x ≡ 0) ⊎ (x ≡ 0 → ⊥)
    zero_or zero = inl refl
    zero_or (suc x) = inr (λ e. omega arith)

    go : (s / 2 ^ n ≡ 0 → ⊥) → ⊥
    go ne = let b = some_bit (s / 2 ^ n) ne in omega (arith, h (n + b.0) (sym (bit_shift s n b.0) ∙ b.1))

-- ---- one test more at the top

pub top_lt : (c t : ℕ) → c < 2 ^ t → c + 2 ^ t < 2 ^ suc t
top_lt c t h = omega (arith, pow-suc 2 t)

pub top_mod : (c t : ℕ) → c < 2 ^ t → (c + 2 ^ t) % 2 ^ t ≡ c
top_mod c t h =
    let e : c + 2 ^ t ≡ 1 * 2 ^ t + c = omega arith in
    ap (λ (x : ℕ). x % 2 ^ t) e ∙ low 1 t h

pub top_bit : (c t : ℕ) → c < 2 ^ t → bit (c + 2 ^ t) t ≡ 1
unfolding bit
top_bit c t h =
    let e : c + 2 ^ t ≡ 1 * 2 ^ t + c = omega arith in
    ap (λ (x : ℕ). x / 2 ^ t % 2) e ∙ ap (λ (x : ℕ). x % 2) (high 1 t h)

pub top_below : (c t i : ℕ) → c < 2 ^ t → i < t → bit (c + 2 ^ t) i ≡ bit c i
top_below c t i h l = sym (bit_low (c + 2 ^ t) t i l) ∙ ap (λ (x : ℕ). bit x i) (top_mod c t h)

-- the set of all tests below n
pub full : ℕ → ℕ
full zero = 0
full (suc n) = full n + 2 ^ n

pub full_lt : (n : ℕ) → full n < 2 ^ n
unfolding full
full_lt zero = omega arith
full_lt (suc n) = top_lt (full n) n (full_lt n)

pub full_bit : (n t : ℕ) → t < n → bit (full n) t ≡ 1
unfolding full
full_bit zero t h = absurd (omega arith)
full_bit (suc n) t h =
    ⊎_elim (λ l. top_below (full n) n t (full_lt n) l ∙ full_bit n t l) (λ e. rw e (top_bit (full n) n (full_lt n))) (below_cases t n h)

-- ---- the tests from t on

shifted_bit : (s t j : ℕ) → bit (s / 2 ^ t * 2 ^ t) (t + j) ≡ bit s (t + j)
unfolding bit
shifted_bit s t j =
    ap (λ (x : ℕ). x % 2) (sym (shr-shr (s / 2 ^ t * 2 ^ t) t j) ∙ ap (λ (x : ℕ). x / 2 ^ j) (shl-shr (s / 2 ^ t) t) ∙ shr-shr s t j)

pub from_out : (s t i : ℕ) → i < t → bit (s / 2 ^ t * 2 ^ t) i ≡ 0
from_out s t i l = sym (bit_low (s / 2 ^ t * 2 ^ t) t i l) ∙ ap (λ (x : ℕ). bit x i) (mul-mod_left (s / 2 ^ t) (2 ^ t)) ∙ bit_zero i

pub from_in : (s t i : ℕ) → t ≤ i → bit (s / 2 ^ t * 2 ^ t) i ≡ bit s i
from_in s t i l = let q : t + (i - t) ≡ i = omega arith in rw q at (shifted_bit s t (i - t))

-- ---- the tests of the code

-- a shift says whether test t is in
pub has_shift : (s t : ℕ) → eqb (s / 2 ^ t % 2) 1 ≡ has s t
unfolding has bit
has_shift s t = refl

-- one shift says whether all tests are below n
pub within_shift : (s n : ℕ) → eqb (s / 2 ^ n) 0 ≡ within s n
unfolding within
within_shift s n = ⊎_elim
    (λ l. eq-eqb _ _ (div-eq_of_lt l) ∙ sym (lt-ltb _ _ l))
    (λ l. ne_eqb (s / 2 ^ n) 0 (λ e. omega (arith, shift_zero s n e)) ∙ sym (le-ltb _ _ l))
    (lt_or_ge s (2 ^ n))

pub within_yes : (s n : ℕ) → within s n ≡ true → s < 2 ^ n
unfolding within
within_yes s n e = ltb-true _ _ e

-- `within` says whether every test is below n
pub within_tells : (s n : ℕ) → within s n ≡ true → Within (λ t. t < n) s
within_tells s n e t b = bit_below n s t (within_yes s n e) b

pub within_of : (s n : ℕ) → Within (λ t. t < n) s → within s n ≡ true
unfolding within
within_of s n h = lt-ltb _ _ (below_of_bits n s h)
