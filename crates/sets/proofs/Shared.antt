-- What two sets share, and what they have together. Assumes nothing.
use mathlib.Core.Logic.{⊎_elim}
use mathlib.Core.Path.{◌≡◌, sym, ap, ◌∙◌}
use Prim.Native.Nat.{ℕ, ◌/◌, ◌%◌, ◌^◌, ◌<◌, min, max}
use native.Mathlib.Omega.{arith}
use lib.Arith.{digits_mod}
use lib.Bits.{bit_and, and_shr, and_step, bit_or, or_shr, or_step}
use lib.Dec.{eqb}
use lib.Pow.{pow-lt}
use Rattle.folds.specs.Fold.{both}
use Rattle.folds.proofs.Below.{eq_or_ne}
use Rattle.sets.specs.Sets.{bit, has, Shares}
use Rattle.sets.proofs.Bits.{bit_lt, bit_cases, bit_out, has_yes, has_no, bit_zero, bit_below, bits_equal, below_of_bits, some_bit}
use Rattle.sets.proofs.Flip.{pow_bit, pow_bit_other}

pub bit-bit_and : (a b t : ℕ) → bit (bit_and a b) t ≡ min (bit a t) (bit b t)
unfolding bit
bit-bit_and a b t =
    ap (λ (x : ℕ). x % 2) (and_shr a b t ∙ and_step (a / 2 ^ t) (b / 2 ^ t))
    ∙ digits_mod (bit_and (a / 2 ^ t / 2) (b / 2 ^ t / 2)) {m = 2} (omega arith)

pub has_and : (a b t : ℕ) → has (bit_and a b) t ≡ both (has a t) (has b t)
unfolding has
has_and a b t = ⊎_elim
    (λ x. has_no (bit_and a b) t (omega (arith, bit-bit_and a b t)) ∙ rw (has_no a t x))
    (λ x. let e : bit (bit_and a b) t ≡ bit b t = omega (arith, bit-bit_and a b t, bit_lt b t) in rw (has_yes a t x) (ap (λ (k : ℕ). eqb k 1) e))
    (bit_cases a t)

pub bit-bit_or : (a b t : ℕ) → bit (bit_or a b) t ≡ max (bit a t) (bit b t)
unfolding bit
bit-bit_or a b t =
    ap (λ (x : ℕ). x % 2) (or_shr a b t ∙ or_step (a / 2 ^ t) (b / 2 ^ t))
    ∙ digits_mod (bit_or (a / 2 ^ t / 2) (b / 2 ^ t / 2)) {m = 2} (omega arith)

pub shares : (m s : ℕ) → (bit_and m s ≡ 0 → ⊥) → Shares m s
shares m s h =
    let r = some_bit (bit_and m s) h in
    (r.0, omega (arith, bit-bit_and m s r.0, r.1, bit_lt m r.0), omega (arith, bit-bit_and m s r.0, r.1, bit_lt s r.0))

pub shares_not : (m s : ℕ) → bit_and m s ≡ 0 → Shares m s → ⊥
shares_not m s e (t, a, b) = omega (arith, bit-bit_and m s t, ap (λ (x : ℕ). bit x t) e, bit_zero t)

-- test t is the only one that two sets share
module _ (m s t : ℕ) where
  both_in : (u : ℕ) → bit (bit_and m s) u ≡ 1 → (bit m u ≡ 1) × (bit s u ≡ 1)
  both_in u e = (omega (arith, bit-bit_and m s u, bit_lt m u), omega (arith, bit-bit_and m s u, bit_lt s u))

  module _ (e : bit_and m s ≡ 2 ^ t) where
    pub only_in : (bit m t ≡ 1) × (bit s t ≡ 1)
    only_in = both_in t (ap (λ (x : ℕ). bit x t) e ∙ pow_bit t)

    pub only_one : (u : ℕ) → bit m u ≡ 1 → bit s u ≡ 1 → u ≡ t
    only_one u a b = ⊎_elim (λ q. q) (λ ne. absurd (omega (arith, bit-bit_and m s u, ap (λ (x : ℕ). bit x u) e, pow_bit_other t u ne))) (eq_or_ne u t)

  pub only_of : (n : ℕ) → m < 2 ^ n → bit m t ≡ 1 → bit s t ≡ 1 → ((u : ℕ) → bit m u ≡ 1 → bit s u ≡ 1 → u ≡ t) → bit_and m s ≡ 2 ^ t
  only_of n h a b only = bits_equal n (bit_and m s) (2 ^ t) (below_of_bits n (bit_and m s) (λ u e. bit_below n m u h (both_in u e).0)) (pow-lt (bit_below n m t h a)) (λ u l. ⊎_elim
      (λ (q : u ≡ t). rw q (omega (arith, bit-bit_and m s t, pow_bit t)))
      (λ (ne : u ≡ t → ⊥). bit_out (bit_and m s) u (λ e. let w = both_in u e in ne (only u w.0 w.1)) ∙ sym (pow_bit_other t u ne))
      (eq_or_ne u t))
