-- Answers as one number, goals and caps as numbers.
-- Assumes nothing.
use Rattle.std.specs.Prelude.{ℕ, ◌+◌, ◌*◌, eqb, ltb}
use Rattle.folds.specs.Fold.{pick}
use Rattle.table.specs.Test.{well_formed}
use Rattle.table.specs.declared.Goal.{Goal}
use Rattle.table.specs.declared.Goal.TheVariants.{Detect, Diagnose}
use Rattle.table.specs.declared.Table.{Table}

-- the refusal number in the low 8 bits, the value above it
unfoldable pub packed : ℕ → ℕ → ℕ
packed number value = number + value * 256

-- a value below 2 ^ 56 stands above the 8 bits
abbrev pub value_limit : ℕ
value_limit = 72057594037927936

-- goal 0 is detect, 1 diagnose
unfoldable pub goal_of : ℕ → Goal
goal_of goal = pick (eqb goal 0) Detect Diagnose

-- any other goal is refused with 99, after 20
unfoldable pub unknown_goal : Table → ℕ
unknown_goal tb = packed (pick (well_formed tb) 99 20) 0

-- every cap above 24 is refused as 25 is
unfoldable pub cap_of : ℕ → ℕ
cap_of cap = pick (ltb 24 cap) 25 cap
