-- Weights of sets that agree or share nothing, for any positive weight of each test. Assumes nothing.
use mathlib.Core.Logic.{⊎_elim}
use mathlib.Core.Path.{◌≡◌, sym, ap, ◌∙◌}
use Prim.Native.Nat.{ℕ, suc, ◌+◌, ◌%◌, ◌^◌, ◌≤◌, ◌<◌}
use native.Mathlib.Nat.{lt_of_lt_of_le}
use native.Mathlib.Omega.{arith}
use lib.Pow.{pow_mono}
use Rattle.folds.specs.Fold.{total}
use Rattle.folds.proofs.Below.{lt_or_ge}
use Rattle.folds.proofs.Total.{total_more, total_same, total_grows}
use Rattle.sets.specs.Sets.{bit, share, weight}
use Rattle.sets.proofs.Bits.{bit_cases, bit_low, bit_high, bits_equal}
use Rattle.sets.proofs.Weight.{share_same, share_in, weight_below}

module _ (w : ℕ → ℕ) where
  -- a set that agrees with what is chosen below t
  module _ (t chosen s : ℕ) (depth : t ≤ 24) (decided : chosen < 2 ^ t) (agrees : s % 2 ^ t ≡ chosen) where
    agreed_bit : (i : ℕ) → i < t → bit chosen i ≡ bit s i
    agreed_bit i l = ap (λ (x : ℕ). bit x i) (sym agrees) ∙ bit_low s t i l

    agreed_part : weight w chosen ≡ total (share w s) t
    agreed_part = weight_below w t chosen depth decided ∙ total_same (share w chosen) (share w s) t (λ i l. share_same w chosen s i (agreed_bit i l))

    pub agreed_weight : weight w chosen ≤ weight w s
    agreed_weight = omega (arith, agreed_part, total_grows (share w s) t 24 depth)

    -- a test more from t on makes it heavier
    agreed_more : (i : ℕ) → t ≤ i → i < 24 → bit s i ≡ 1 → weight w chosen + w i ≤ weight w s
    agreed_more i l m e =
        omega (arith, agreed_part, total_grows (share w s) t i l, total_more (share w s) i, total_grows (share w s) (suc i) 24 m, share_in w s i e)

    -- as heavy: no test more
    pub agreed_same : ((i : ℕ) → 0 < w i) → s < 2 ^ 24 → weight w chosen ≡ weight w s → chosen ≡ s
    agreed_same positive below e = bits_equal 24 chosen s (lt_of_lt_of_le decided (pow_mono depth)) below (λ i m. ⊎_elim
        (λ l. agreed_bit i l)
        (λ l. bit_high chosen t i decided l ∙ sym (⊎_elim (λ z. z) (λ o. absurd (omega (arith, agreed_more i l m o, positive i))) (bit_cases s i)))
        (lt_or_ge i t))
