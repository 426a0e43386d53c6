-- A table and a set that have passed the two tests.
-- Assumes nothing.
use Rattle.std.specs.Prelude.{◌≡◌, true, false, ◌⊎◌, ℕ, Result, MatchResult}
use Rattle.sets.specs.Sets.{within}
use Rattle.table.specs.declared.Refusal.{Refusal}
use Rattle.table.specs.declared.Refusal.TheVariants.{NotWellFormed, UnknownTest}
use Rattle.table.specs.declared.Table.{Table}
use Rattle.table.specs.Test.{well_formed}
use Rattle.lent.specs.declared.given.Given.{Given}

-- "20 | a call's table is not well formed", "21 | a given set holds a test that the table lacks", in that order
abbrev pub Unfit : Table → ℕ → Refusal → Type 0
Unfit tb s why = ((why ≡ NotWellFormed) × (well_formed tb ≡ false)) ⊎ ((why ≡ UnknownTest) × (well_formed tb ≡ true) × (within s tb.tests ≡ false))

-- the table and the set themselves, or why a call refuses them
abbrev pub GivenOf : Table → ℕ → Result Given Refusal → Type 0
GivenOf tb s r = MatchResult r (λ given. (given.table.table ≡ tb) × (given.set ≡ s)) (Unfit tb s)
