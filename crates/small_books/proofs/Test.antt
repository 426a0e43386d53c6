-- Tests of a table that antt computes, beside that of its choice, and what they say. Assumes nothing.
use mathlib.Core.Bool.{Bool, true}
use mathlib.Core.Logic.{inr}
use mathlib.Core.Path.{◌≡◌, subst}
use Prim.Native.Nat.{ℕ, ◌-◌, ◌^◌, ◌≤◌}
use borrow.Author.Tests.{eqb-true, leb-true, ltb-true}
use lib.Dec.{eqb, leb, ltb}
use Rattle.folds.specs.Fold.{both}
use Rattle.folds.proofs.Bools.{both_left, both_right}
use Rattle.sets.specs.Sets.{size}
use Rattle.table.specs.Test.{well_formed}
use Rattle.table.proofs.Tested.{formed}
use Rattle.table.specs.Answers.{number_of}
use Rattle.table.specs.WellFormed.{WellFormed}
use Rattle.std.specs.Prelude.{Result, Ok, Err}
use Rattle.table.specs.declared.Refusal.{Refusal}
use Rattle.table.specs.declared.Goal.{Goal}
use Rattle.table.specs.declared.Table.{Table}
use Rattle.cover.specs.Answer.{kept_set, Exactly, AsideTest}
use Rattle.cover.proofs.Aside.{aside_exactly}
use Rattle.choice.specs.Answer.{ChoiceIs}
use Rattle.choice_laws.proofs.Small.{choice_by, each_reaching_lem, each_reaching, is_choice}

module _ (tb : Table) (goal : Goal) where
  unfoldable pub is_aside_test : ℕ → Bool
  is_aside_test s = eqb (2 ^ tb.tests - 1 - kept_set tb goal) s

  pub aside_by : (s : ℕ) → is_aside_test s ≡ true → Exactly (AsideTest tb goal) s
  unfolding is_aside_test
  aside_by s h = subst (Exactly (AsideTest tb goal)) (eqb-true _ _ h) (aside_exactly tb goal)

  unfoldable pub exceeds : ℕ → ℕ → Bool
  exceeds cap s = ltb cap (size s)

  -- the cap gives r: the choice, which is within it, or 23, where no set within it reaches the goal
  unfoldable pub cap_gives : ℕ → Result ℕ Refusal → Bool
  cap_gives cap (Ok s) = both (is_choice tb goal s) (leb (size s) cap)
  cap_gives cap (Err why) = both (eqb (number_of why) 23) (each_reaching tb goal (exceeds cap))

  unfoldable pub is_capped : ℕ → Result ℕ Refusal → Bool
  is_capped cap r = both (well_formed tb) (both (leb cap 24) (cap_gives cap r))

  module _ (cap : ℕ) (w : WellFormed tb) (fits : cap ≤ 24) where
    cap_by : (r : Result ℕ Refusal) → cap_gives cap r ≡ true → ChoiceIs tb goal cap r
    unfolding cap_gives exceeds
    cap_by (Ok s) h = (w, fits, choice_by tb goal s (both_left (is_choice tb goal s) _ h), leb-true _ _ (both_right (is_choice tb goal s) _ h))
    cap_by (Err why) h = inr (inr (
      eqb-true _ _ (both_left (eqb (number_of why) 23) _ h),
      w,
      fits,
      λ s t r. ltb-true _ _ (each_reaching_lem tb goal (exceeds cap) (both_right (eqb (number_of why) 23) _ h) s t r),
    ))

  pub capped_by : (cap : ℕ) (r : Result ℕ Refusal) → is_capped cap r ≡ true → ChoiceIs tb goal cap r
  unfolding is_capped
  capped_by cap r h =
      let rest : both (leb cap 24) (cap_gives cap r) ≡ true = both_right (well_formed tb) _ h in
      cap_by cap (formed tb (both_left (well_formed tb) _ h)) (leb-true _ _ (both_left (leb cap 24) _ rest)) r (both_right (leb cap 24) _ rest)
