-- Masks that share no test need a test each, and no test weighs less than 1. Assumes nothing.
use mathlib.Core.List.{List}
use mathlib.Core.Logic.{inl, inr, ⊎_elim}
use mathlib.Core.Path.{◌≡◌, refl, sym, ap, ◌∙◌}
use Prim.Native.Nat.{ℕ, ◌+◌, ◌*◌, ◌/◌, ◌%◌, ◌^◌, ◌≤◌, ◌<◌}
use native.Mathlib.Nat.{mod-eq_of_lt, lt_of_le_of_lt, div-mul-le_self}
use native.Mathlib.Omega.{arith}
use lib.Bits.{bit_and, bit_or}
use lib.ListN.{length, get_or}
use Rattle.folds.proofs.Below.{lt_or_ge}
use Rattle.sets.specs.Sets.{bit, weight, Shares}
use Rattle.sets.proofs.Bits.{from_out, from_in, bit_low, bit_high, bit_zero, bit_below}
use Rattle.sets.proofs.Shared.{bit-bit_and, bit-bit_or, shares_not}
use Rattle.sets.proofs.Weight.{weight_two, weight_more}
use Rattle.choice.specs.Search.{Open, RestOf, OneMore, NeedsMore}

-- the kept tests from t on
pub rest_of : (keep t : ℕ) → keep < 2 ^ 32 → RestOf keep t (keep / 2 ^ t * 2 ^ t % 4294967296)
rest_of keep t h =
    let e : keep / 2 ^ t * 2 ^ t % 4294967296 ≡ keep / 2 ^ t * 2 ^ t = mod-eq_of_lt (lt_of_le_of_lt (div-mul-le_self keep (2 ^ t)) h) in
    rw e (record { low = from_out keep t; high = from_in keep t })

-- ---- the loop's invariant: below t the taken tests are the chosen ones, and those of each open set weigh at least n more
pub record Covered (w : ℕ → ℕ) (masks : List ℕ) (keep t chosen taken n : ℕ) : Type 0 where
  pub low : (i : ℕ) → i < t → bit taken i ≡ bit chosen i
  pub all : (limit s : ℕ) → Open w masks keep t chosen limit s → weight w chosen + n ≤ weight w (bit_and s taken)

module _ (w : ℕ → ℕ) (masks : List ℕ) (keep t chosen : ℕ) (decided : chosen < 2 ^ t) where
  -- an open set has the chosen tests
  open_has : (limit s i : ℕ) → Open w masks keep t chosen limit s → bit chosen i ≤ bit (bit_and s chosen) i
  open_has limit s i o = ⊎_elim
      (λ l. omega (arith, bit_low s t i l, ap (λ (x : ℕ). bit x i) o.agrees, bit-bit_and s chosen i))
      (λ l. omega (arith, bit_high chosen t i decided l)) (lt_or_ge i t)

  pub covered_none : Covered w masks keep t chosen chosen 0
  covered_none = record {
    low = λ i l. refl;
    all = λ limit s o. omega (arith, weight_two w chosen 0 (bit_and s chosen) (λ i. omega (arith, open_has limit s i o, bit_zero i)));
  }

  pub covered_needs : (taken n : ℕ) → Covered w masks keep t chosen taken n → NeedsMore w masks keep t chosen n
  covered_needs taken n c limit s o = omega (arith, c.all limit s o, weight_two w (bit_and s taken) 0 s (λ i. omega (arith, bit-bit_and s taken i, bit_zero i)))

  module _ (rest : ℕ) (r : RestOf keep t rest) (k : ℕ) (l : k < length masks) (mask : ℕ) (is : mask ≡ get_or masks k 0) where
    -- the test that an open set shares with a mask that has no taken test is among those left
    left_test : (taken n : ℕ) → Covered w masks keep t chosen taken n → (limit s : ℕ) → Open w masks keep t chosen limit s → bit_and mask taken ≡ 0
        → (j : ℕ) × (j < 24) × (bit s j ≡ 1) × (bit (bit_and mask rest) j ≡ 1)
    left_test taken n c limit s o e =
        let h : Shares mask s = rw is (o.hits k l) in
        let j = h.0 in
        ⊎_elim
        (λ m. absurd (shares_not mask taken e (j, h.1, c.low j m ∙ ap (λ (x : ℕ). bit x j) (sym o.agrees) ∙ bit_low s t j m ∙ h.2)))
        (λ m. (j, bit_below 24 s j o.below h.2, h.2, omega (arith, bit-bit_and mask rest j, h.1, r.high j m, o.keeps j m h.2)))
        (lt_or_ge j t)

    pub covered_more : ((i : ℕ) → 0 < w i) → (taken n taken' n' : ℕ) → Covered w masks keep t chosen taken n
        → OneMore taken n mask rest taken' n' → Covered w masks keep t chosen taken' n'
    covered_more positive taken n taken' n' c (inl e) = rw (e.0, e.1) c
    covered_more positive taken n taken' n' c (inr e) = rw (e.1, e.2) (record {
      low = λ i m. omega (arith, bit-bit_or taken (bit_and mask rest) i, bit-bit_and mask rest i, r.low i m, c.low i m);
      all = λ limit s o.
          let new = bit_and mask rest in
          let h = left_test taken n c limit s o e.0 in
          let j = h.0 in
          let z : bit taken j ≡ 0 = omega (arith, bit-bit_and mask taken j, ap (λ (x : ℕ). bit x j) e.0, bit_zero j, bit-bit_and mask rest j, h.3) in
          omega (
            arith,
            c.all limit s o,
            positive j,
            weight_more w (bit_and s taken) (bit_and s (bit_or taken new)) j h.1
                (λ i. omega (arith, bit-bit_and s taken i, bit-bit_and s (bit_or taken new) i, bit-bit_or taken new i))
                (omega (arith, bit-bit_and s taken j))
                (omega (arith, bit-bit_and s (bit_or taken new) j, bit-bit_or taken new j, h.2, h.3)),
          );
    })
