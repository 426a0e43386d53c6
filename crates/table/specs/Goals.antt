-- The goals' numbers, for callers that have no enums.
-- Assumes nothing.
use Rattle.std.specs.Prelude.{ℕ, ◌≡◌, ◌<◌, Result, MatchResult}
use Rattle.table.specs.declared.Goal.{Goal}
use Rattle.table.specs.declared.Goal.TheVariants.{Detect, Diagnose}
use Rattle.table.specs.declared.goals.UnknownGoal.{UnknownGoal}

abbrev pub goal_number : Goal → ℕ
goal_number Detect = 0
goal_number Diagnose = 1

-- the goal of a number, or that the number is no goal's
abbrev pub GoalOf : ℕ → Result Goal UnknownGoal → Type 0
GoalOf number r = MatchResult r (λ goal. goal_number goal ≡ number) (λ unknown. (unknown.0 ≡ number) × (1 < number))
