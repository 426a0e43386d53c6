-- What `choose` answers. The sentences are document 01's.
-- Assumes nothing.
use Rattle.std.specs.Prelude.{◌⊎◌, ◌≡◌, ℕ, ◌≤◌, ◌<◌, Option, Some, None, Result, Ok, Err, leb}
use Rattle.folds.specs.Fold.{pick}
use Rattle.sets.specs.Sets.{Within, size}
use Rattle.table.specs.Answers.{number_of}
use Rattle.table.specs.WellFormed.{WellFormed}
use Rattle.table.specs.declared.Goal.{Goal}
use Rattle.table.specs.declared.Refusal.{Refusal}
use Rattle.table.specs.declared.Refusal.TheVariants.{NoneWithinCap}
use Rattle.table.specs.declared.Table.{Table}
use Rattle.terms.specs.Choice.{Choice}
use Rattle.terms.specs.Terms.{TestOf, Reaches}
use Rattle.choice.specs.declared.search.Weighed.{Weighed}

-- the search gives the choice, with its size
abbrev pub Sought : Table → Goal → Option Weighed → Type 0
Sought tb goal (Some f) = Choice tb goal f.set × (f.weight ≡ size f.set)
Sought tb goal None = ⊥

abbrev pub within_cap : Option Weighed → ℕ → Result ℕ Refusal
within_cap (Some f) cap = pick (leb f.weight cap) (Ok f.set) (Err NoneWithinCap)
within_cap None cap = Err NoneWithinCap

-- "no set within the cap reaches the goal"
abbrev pub NoneWithin : Table → Goal → ℕ → Type 0
NoneWithin tb goal cap = (s : ℕ) → Within (TestOf tb) s → Reaches tb goal s → cap < size s

-- "Calls test these in the order 20, .. 22, .. 23."
abbrev pub ChoiceIs : Table → Goal → ℕ → Result ℕ Refusal → Type 0
ChoiceIs tb goal cap (Ok s) = WellFormed tb × (cap ≤ 24) × Choice tb goal s × (size s ≤ cap)
ChoiceIs tb goal cap (Err why) =
    ((number_of why ≡ 20) × (WellFormed tb → ⊥))
    ⊎ (((number_of why ≡ 22) × WellFormed tb × (24 < cap))
    ⊎ ((number_of why ≡ 23) × WellFormed tb × (cap ≤ 24) × NoneWithin tb goal cap))
