-- The promise of each exported call leaves one result. Assumes nothing.
use mathlib.Core.Bool.{Bool}
use mathlib.Core.Path.{◌≡◌, refl, sym, ap, ◌∙◌}
use Prim.Native.Nat.{ℕ}
use native.Mathlib.Omega.{arith}
use Rattle.std.specs.Prelude.{Result, Ok, Err}
use Rattle.table.specs.declared.Goal.{Goal}
use Rattle.table.specs.declared.Goal.TheVariants.{Detect, Diagnose}
use Rattle.table.specs.declared.goals.UnknownGoal.{UnknownGoal}
use Rattle.table.specs.declared.Table.{Table}
use Rattle.table.specs.declared.Refusal.{Refusal}
use Rattle.table.specs.Answers.{number_of}
use Rattle.table.specs.Goals.{goal_number, GoalOf}
use Rattle.table.specs.Table.{empty_table}
use Rattle.table.specs.Test.{Tested}

pub empty_table_pins : (r₁ r₂ : Table) → r₁ ≡ empty_table → r₂ ≡ empty_table → r₁ ≡ r₂
empty_table_pins r₁ r₂ a b = a ∙ sym b

pub number_pins : (why : Refusal) (r₁ r₂ : ℕ) → r₁ ≡ number_of why → r₂ ≡ number_of why → r₁ ≡ r₂
number_pins why r₁ r₂ a b = a ∙ sym b

pub well_formed_pins : (tb : Table) (r₁ r₂ : Bool) → Tested tb r₁ → Tested tb r₂ → r₁ ≡ r₂
well_formed_pins tb r₁ r₂ a b = a.is ∙ sym b.is

pub goal_pins : (number : ℕ) (r₁ r₂ : Result Goal UnknownGoal) → GoalOf number r₁ → GoalOf number r₂ → r₁ ≡ r₂
goal_pins number (Ok a) (Ok b) p q = ap Ok (goal_one a b (p ∙ sym q))
  where
    goal_one : (a b : Goal) → goal_number a ≡ goal_number b → a ≡ b
    goal_one Detect Detect e = refl
    goal_one Detect Diagnose e = absurd (omega arith)
    goal_one Diagnose Detect e = absurd (omega arith)
    goal_one Diagnose Diagnose e = refl
goal_pins number (Ok Detect) (Err b) p (q, high) = absurd (omega arith)
goal_pins number (Ok Diagnose) (Err b) p (q, high) = absurd (omega arith)
goal_pins number (Err a) (Ok Detect) (p, high) q = absurd (omega arith)
goal_pins number (Err a) (Ok Diagnose) (p, high) q = absurd (omega arith)
goal_pins number (Err a) (Err b) (p, _) (q, _) = ap (λ (n : ℕ). Err record { 0 = n }) (p ∙ sym q)
