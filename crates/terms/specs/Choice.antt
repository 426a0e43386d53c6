-- The choice: it speaks of all subsets and runs no search. The sentences are document 01's.
-- Assumes nothing.
use Rattle.std.specs.Prelude.{ℕ}
use Rattle.sets.specs.Sets.{Within, Precedes, one}
use Rattle.table.specs.declared.Goal.{Goal}
use Rattle.table.specs.declared.Table.{Table}
use Rattle.terms.specs.Terms.{TestOf, Reaches}

-- what each test of a table weighs: 1, so that the lightest sets are the smallest
abbrev pub test_weight : Table → ℕ → ℕ
test_weight tb = one

-- "The choice is the first, in that order, of the smallest sets that separate every goal pair."
-- "Striking out the set-aside tests means that they may no longer be chosen; the other tests keep their numbers and the goal
-- pairs stay": so the tests that may be chosen are given, and the goal pairs are those of the whole table.
pub record IsChoice (tb : Table) (goal : Goal) (allowed : ℕ → Type 0) (s : ℕ) : Type 0 where
  pub within : Within allowed s
  pub reaches : Reaches tb goal s
  pub first : (s' : ℕ) → Within allowed s' → Reaches tb goal s' → Precedes (test_weight tb) s s'

-- the choice of a table and a goal: every test of the table may be chosen
abbrev pub Choice : Table → Goal → ℕ → Type 0
Choice tb goal s = IsChoice tb goal (TestOf tb) s
