-- A table that has passed the test: its counts are within the sizes.
-- Assumes nothing.
use Rattle.std.specs.Prelude.{◌≡◌, false, Result, MatchResult, true}
use Rattle.table.specs.declared.Refusal.{Refusal}
use Rattle.table.specs.declared.Refusal.TheVariants.{NotWellFormed}
use Rattle.table.specs.declared.Table.{Table}
use Rattle.table.specs.declared.fitting.Fitting.{Fitting}
use Rattle.table.specs.Test.{well_formed}

-- the table itself, or that it is not well formed
abbrev pub FittingOf : Table → Result Fitting Refusal → Type 0
FittingOf tb r = MatchResult r (λ fitting. (fitting.table ≡ tb) × (well_formed tb ≡ true)) (λ why. (why ≡ NotWellFormed) × (well_formed tb ≡ false))
