-- A set with one test put in or taken out. Assumes nothing.
use mathlib.Core.Path.{◌≡◌, refl, sym, ap, ap₂, ◌∙◌}
use mathlib.Core.Logic.{⊎_elim}
use Prim.Native.Nat.{ℕ, zero, suc, ◌/◌, ◌%◌, ◌^◌, ◌<◌}
use native.Mathlib.Nat.{zero-add, mod-lt, zero-lt-suc}
use native.Mathlib.Omega.{arith}
use lib.Arith.{digits_mod}
use lib.Pow.{pow-lt, pow_pos}
use lib.Bits.{bit_xor, differ, xor_shr, xor_step}
use Rattle.folds.proofs.Below.{lt_or_ge}
use Rattle.sets.specs.Sets.{bit}
use Rattle.sets.proofs.Bits.{bit_low, bit_high, bit_zero, top_bit, top_mod}

differ_lt : (x y : ℕ) → x < 2 → y < 2 → differ x y < 2
differ_lt zero y a b = b
differ_lt (suc x) zero a b = a
differ_lt (suc x) (suc y) a b = differ_lt x y (omega arith) (omega arith)

differ_zero : (x : ℕ) → differ x 0 ≡ x
differ_zero zero = refl
differ_zero (suc x) = refl

bit-bit_xor : (a b t : ℕ) → bit (bit_xor a b) t ≡ differ (bit a t) (bit b t)
unfolding bit
bit-bit_xor a b t =
    ap (λ (x : ℕ). x % 2) (xor_shr a b t ∙ xor_step (a / 2 ^ t) (b / 2 ^ t))
    ∙ digits_mod (bit_xor (a / 2 ^ t / 2) (b / 2 ^ t / 2)) {m = 2}
    (differ_lt (a / 2 ^ t % 2) (b / 2 ^ t % 2) (mod-lt (a / 2 ^ t) (zero-lt-suc 1)) (mod-lt (b / 2 ^ t) (zero-lt-suc 1)))

-- the set of test t alone
pub pow_bit : (t : ℕ) → bit (2 ^ t) t ≡ 1
pow_bit t = rw zero-add at (top_bit 0 t (pow_pos t))

pub pow_bit_other : (t i : ℕ) → (i ≡ t → ⊥) → bit (2 ^ t) i ≡ 0
pow_bit_other t i ne =
    let z : 2 ^ t % 2 ^ t ≡ 0 = rw zero-add at (top_mod 0 t (pow_pos t)) in
    ⊎_elim (λ l. sym (bit_low (2 ^ t) t i l) ∙ ap (λ (x : ℕ). bit x i) z ∙ bit_zero i)
    (λ l. bit_high (2 ^ t) (suc t) i (pow-lt {i = t} {j = suc t} (omega arith)) (omega arith)) (lt_or_ge i t)

-- s with test t in where it was out, and out where it was in
pub flip : ℕ → ℕ → ℕ
flip s t = bit_xor s (2 ^ t)

pub flip_out : (s t : ℕ) → bit s t ≡ 1 → bit (flip s t) t ≡ 0
unfolding flip
flip_out s t e = bit-bit_xor s (2 ^ t) t ∙ ap₂ differ e (pow_bit t)

pub flip_in : (s t : ℕ) → bit s t ≡ 0 → bit (flip s t) t ≡ 1
unfolding flip
flip_in s t e = bit-bit_xor s (2 ^ t) t ∙ ap₂ differ e (pow_bit t)

pub flip_other : (s t i : ℕ) → (i ≡ t → ⊥) → bit (flip s t) i ≡ bit s i
unfolding flip
flip_other s t i ne = bit-bit_xor s (2 ^ t) i ∙ ap (differ (bit s i)) (pow_bit_other t i ne) ∙ differ_zero (bit s i)
