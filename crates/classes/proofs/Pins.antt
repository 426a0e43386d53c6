-- The promise of each exported call leaves one result. Assumes nothing.
use mathlib.Core.Bool.{Bool, true, false}
use mathlib.Core.Logic.{⊎_elim}
use mathlib.Core.Path.{◌≡◌, refl, sym, ◌∙◌}
use Prim.Native.Nat.{ℕ, ◌^◌, ◌<◌}
use native.Mathlib.Omega.{arith}
use Rattle.std.specs.Prelude.{Result, Ok, Err}
use Rattle.folds.proofs.Bools.{tells_pins, tells_yes}
use Rattle.sets.specs.Sets.{has, bit}
use Rattle.sets.proofs.Bits.{bit_cases, has_yes, has_no, has_bit, lacks_bit, bits_equal, within_of, within_yes}
use Rattle.table.specs.Answers.{answer_number, answer_value}
use Rattle.table.specs.Test.{well_formed}
use Rattle.table.specs.declared.Classes.{Classes}
use Rattle.table.specs.declared.Refusal.{Refusal}
use Rattle.table.specs.declared.Table.{Table}
use Rattle.table.proofs.Answers.{answer_one}
use Rattle.classes.specs.Classes.{classes_of}
use Rattle.classes.specs.Undetectable.{UndetectableFault, UndetectableIn}

pub classify_pins : (tb : Table) (r₁ r₂ : Result Classes Refusal) → r₁ ≡ classes_of tb → r₂ ≡ classes_of tb → r₁ ≡ r₂
classify_pins tb r₁ r₂ a b = a ∙ sym b

refused_empty : (r : Result ℕ Refusal) → answer_number r ≡ 20 → answer_value r ≡ 0
refused_empty (Ok s) h = absurd (omega arith)
refused_empty (Err why) h = refl

same_bit : (s s' f : ℕ) → has s f ≡ has s' f → bit s f ≡ bit s' f
same_bit s s' f e = ⊎_elim
    (λ z. z ∙ sym (lacks_bit s' f (sym e ∙ has_no s f z)))
    (λ z. z ∙ sym (has_bit s' f (sym e ∙ has_yes s f z)))
    (bit_cases s f)

-- of a well-formed table the set has no bit past the faults
set_below : (tb : Table) (r : Result ℕ Refusal) → UndetectableIn tb r → well_formed tb ≡ true → answer_value r < 2 ^ tb.faults
set_below tb r u w =
    within_yes _ _ (within_of (answer_value r) tb.faults (λ f e. (tells_yes (has (answer_value r) f) (u.holds w f) (has_yes _ f e)).0))

pub undetectable_pins : (tb : Table) (r₁ r₂ : Result ℕ Refusal) → UndetectableIn tb r₁ → UndetectableIn tb r₂ → r₁ ≡ r₂
undetectable_pins tb r₁ r₂ a b = answer_one r₁ r₂ (a.number ∙ sym b.number) (one_set (well_formed tb) refl)
  where
    one_set : (w : Bool) → well_formed tb ≡ w → answer_value r₁ ≡ answer_value r₂
    one_set true w =
        bits_equal tb.faults (answer_value r₁) (answer_value r₂) (set_below tb r₁ a w) (set_below tb r₂ b w)
        (λ f l. same_bit _ _ f (tells_pins (UndetectableFault tb f) _ _ (a.holds w f) (b.holds w f)))
    one_set false w = refused_empty r₁ (a.number ∙ rw w) ∙ sym (refused_empty r₂ (b.number ∙ rw w))
