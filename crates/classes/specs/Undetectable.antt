-- The answer of `undetectable`. The sentences are document 01's.
-- Assumes nothing.
use Rattle.std.specs.Prelude.{Bool, true, ◌≡◌, ℕ, ◌+◌, ◌<◌, Result}
use Rattle.folds.specs.Fold.{pick, Tells}
use Rattle.sets.specs.Sets.{has}
use Rattle.table.specs.Answers.{answer_number, answer_value}
use Rattle.table.specs.Test.{well_formed}
use Rattle.table.specs.declared.Refusal.{Refusal}
use Rattle.table.specs.declared.Table.{Table}
use Rattle.terms.specs.Columns.{alike}
use Rattle.terms.specs.Terms.{Undetectable}

-- no test separates fault f from column 0
unfoldable pub undetected : (ℕ → ℕ → ℕ) → ℕ → ℕ → Bool
undetected out tests f = alike out tests 0 (f + 1)

-- f is one of the table's faults, and "a fault is undetectable when no test separates it from column 0"
abbrev pub UndetectableFault : Table → ℕ → Type 0
UndetectableFault tb f = (f < tb.faults) × Undetectable tb f

-- the call refuses a table that is not well formed, by 20 and with the empty set; of any other the set holds f exactly when
-- f is an undetectable fault
pub record UndetectableIn (tb : Table) (r : Result ℕ Refusal) : Type 0 where
  pub number : answer_number r ≡ pick (well_formed tb) 0 20
  pub holds : well_formed tb ≡ true → (f : ℕ) → Tells (has (answer_value r) f) (UndetectableFault tb f)
