-- Answers as one number, goals and caps as numbers. Assumes nothing.
use mathlib.Core.Path.{◌≡◌, refl}
use Prim.Native.Nat.{ℕ, ◌/◌, ◌%◌, ◌≤◌, ◌<◌}
use native.Mathlib.Omega.{arith}
use borrow.Author.Tests.{lt-ltb, le-ltb}
use Rattle.flat.specs.Packed.{packed, value_limit, cap_of}

-- no bit is lost: both parts come back
module _ (number value : ℕ) (small : number < 256) where
  pub low_bits : packed number value % 256 ≡ number
  unfolding packed
  low_bits = omega arith

  pub high_bits : packed number value / 256 ≡ value
  unfolding packed
  high_bits = omega arith

-- and an answer fits the 64 bits
pub packed_fits : (number value : ℕ) → number < 256 → value < value_limit → packed number value < 18446744073709551616
unfolding packed
packed_fits number value h k = omega arith

pub cap_high : (cap : ℕ) → 24 < cap → 25 ≡ cap_of cap
unfolding cap_of
cap_high cap h = rw (lt-ltb 24 cap h) refl

pub cap_low : (cap : ℕ) → cap ≤ 24 → cap ≡ cap_of cap
unfolding cap_of
cap_low cap h = rw (le-ltb 24 cap h) refl
