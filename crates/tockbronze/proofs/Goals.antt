-- The calls for a goal. Assumes nothing.
use mathlib.Core.List.{List}
use mathlib.Core.Logic.{◌⊎◌, inl, inr, ⊎_elim}
use mathlib.Core.Path.{◌≡◌, refl, sym, ◌∙◌}
use Prim.Native.Nat.{ℕ, ◌≤◌, ◌<◌}
use native.Mathlib.Omega.{arith}
use Rattle.std.specs.Prelude.{Result, Ok, Err}
use Rattle.folds.proofs.Below.{lt_or_ge}
use Rattle.table.specs.Answers.{answer_number, answer_value}
use Rattle.table.specs.Goals.{goal_number}
use Rattle.table.specs.declared.Goal.{Goal}
use Rattle.table.specs.declared.Goal.TheVariants.{Detect, Diagnose}
use Rattle.table.specs.declared.Refusal.{Refusal}
use Rattle.table.specs.declared.Table.{Table}
use Rattle.choice.specs.Answer.{ChoiceIs}
use Rattle.flat.specs.Flat.{lent_table}
use Rattle.flat.specs.Packed.{packed, goal_of, unknown_goal, cap_of}
use Rattle.flat.proofs.Numbers.{cap_high, cap_low}
use Rattle.tockbronze.specs.Calls.{ForGoal, FromChosen}

goal_back : (g : Goal) → (goal_number g ≤ 1) × (goal_of (goal_number g) ≡ g)
unfolding goal_of
goal_back Detect = (omega arith, refl)
goal_back Diagnose = (omega arith, refl)

module _ (Given : Table → Goal → Result ℕ Refusal → Type 0) (bytes : List ℕ) (goal r : ℕ) (tb : Table) (lent : tb ≡ lent_table bytes) where
  pub for_goal : (g : Goal) (a : Result ℕ Refusal) → goal_number g ≡ goal → Given tb g a → r ≡ packed (answer_number a) (answer_value a) → ForGoal Given bytes goal r
  for_goal g a e given er =
      let k = goal_back g in
      inl (rw (← e) k.0, record { answer = a; given = rw (← lent, ← e, k.1) given; is = er })

-- a choice within 25 tests is refused as one within any cap above 24
over : (tb : Table) (goal : Goal) (cap : ℕ) → 24 < cap → (a : Result ℕ Refusal) → ChoiceIs tb goal 25 a → ChoiceIs tb goal cap a
over tb goal cap h (Ok s) (w, l, c, n) = absurd (omega arith)
over tb goal cap h (Err why) (inl p) = inl p
over tb goal cap h (Err why) (inr (inl (e, w, l))) = inr (inl (e, w, h))
over tb goal cap h (Err why) (inr (inr (e, w, l, n))) = absurd (omega arith)

pub cap_same : (tb : Table) (goal : Goal) (cap m : ℕ) (a : Result ℕ Refusal) → m ≡ cap_of cap → ChoiceIs tb goal m a → ChoiceIs tb goal cap a
cap_same tb goal cap m a e given =
    ⊎_elim
    (λ (h : 24 < cap). let f : m ≡ 25 = e ∙ sym (cap_high cap h) in over tb goal cap h a (rw f at given))
    (λ (h : cap ≤ 24). let f : m ≡ cap = e ∙ sym (cap_low cap h) in rw f at given)
    (lt_or_ge 24 cap)

-- what the call ensures of its answer, by what is promised
pub promised : (Given : Table → Goal → Result ℕ Refusal → Type 0) (P : Result ℕ Refusal → Type 0) (bytes : List ℕ) (goal r : ℕ) → ((goal ≤ 1) × FromChosen P r) ⊎ ((1 < goal) × (r ≡ unknown_goal (lent_table bytes)))
    → ((a : Result ℕ Refusal) → P a → Given (lent_table bytes) (goal_of goal) a) → ForGoal Given bytes goal r
promised Given P bytes goal r (inl (h, p)) imp = inl (h, record { answer = p.answer; given = imp p.answer p.given; is = p.is })
promised Given P bytes goal r (inr p) imp = inr p
