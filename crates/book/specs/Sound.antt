-- The test of what has been read so far, as the code makes it, and the step that makes it first.
-- Assumes nothing.
use Rattle.std.specs.Prelude.{Bool, true, not, List, ◌∷◌, ℕ, ◌+◌, ◌*◌, ltb, eqb, length}
use Rattle.folds.specs.Fold.{both, either, every}
use Rattle.table.specs.Table.{cell_at, output_at}
use Rattle.table.specs.Test.{well_formed}
use Rattle.table.specs.declared.Refusal.TheVariants.{NotWellFormed}
use Rattle.table.specs.declared.Table.{Table}
use Rattle.records.specs.declared.SoFar.{SoFar}
use Rattle.records.specs.declared.Stage.{Stage}
use Rattle.records.specs.declared.Stage.TheVariants.{Tests, Faults, Responses, Ended}
use Rattle.records.specs.declared.Stepped.{Stepped}
use Rattle.records.specs.Step.{Rule, check, rule, judged, rule_at}

-- where the response of fault f to test t stands among all
abbrev pub order_of : ℕ → ℕ → ℕ
order_of f t = f * 24 + t

-- the response of fault f to test t is before the first one asked for, or the correct output
unfoldable pub correct_at : List ℕ → ℕ → ℕ → ℕ → Bool
correct_at cells first f t = either (ltb (order_of f t) first) (eqb (cell_at cells t 0) (cell_at cells t (f + 1)))

unfoldable pub fault_correct : List ℕ → ℕ → ℕ → ℕ → Bool
fault_correct cells tests first f = every (correct_at cells first f) tests

unfoldable pub correct_from : List ℕ → ℕ → ℕ → ℕ → Bool
correct_from cells tests faults first = every (fault_correct cells tests first) faults

-- the stage fits the table: no fault yet; a fault, and no response; the last response is the last that differs; the end
abbrev pub stage_fits : Stage → Table → Bool
stage_fits Tests tb = eqb tb.faults 0
stage_fits Faults tb = both (not (eqb tb.faults 0)) (correct_from tb.cells tb.tests tb.faults 0)
stage_fits (Responses f t) tb =
    both (ltb t tb.tests)
    (both (ltb f tb.faults)
    (both (not (eqb (output_at tb t 0) (output_at tb t (f + 1)))) (correct_from tb.cells tb.tests tb.faults (order_of f t + 1))))
stage_fits Ended tb = true

unfoldable pub sound_test : SoFar → Bool
sound_test sofar = both (well_formed sofar.table) (stage_fits sofar.stage sofar.table)

-- "A reading so far that no start of any book gives, or a place past the lent book's end, gives 20 with that place and the
-- empty table, before any other number."
unfoldable pub call_rule : List ℕ → ℕ → SoFar → Rule
call_rule book place sofar = rule
    (check NotWellFormed (not (sound_test sofar))
    ∷ check NotWellFormed (ltb (length book) place)
    ∷ (rule_at book place sofar).checks)
    (rule_at book place sofar).gives

unfoldable pub record_at : List ℕ → ℕ → SoFar → Stepped
record_at book place sofar = judged (call_rule book place sofar) place
