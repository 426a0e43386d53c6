-- What each kind of record adds to a table. The sentences are document 01's.
-- Assumes nothing.
use Rattle.std.specs.Prelude.{Bool, not, List, ℕ, zero, suc, ◌+◌, eqb, get_or, set}
use Rattle.folds.specs.Fold.{both}
use Rattle.table.specs.Table.{place_of, cell_at}
use Rattle.table.specs.declared.Table.{Table}

-- "next test: its correct output"
abbrev pub with_test : Table → ℕ → Table
with_test tb output =
    record { tests = tb.tests + 1; faults = tb.faults; cells = set tb.cells (place_of tb.tests 0) output; lines = tb.lines; stuck = tb.stuck }

-- the cells with the correct outputs of the first n tests in a column
unfoldable pub filled : List ℕ → ℕ → ℕ → List ℕ
filled cells column zero = cells
filled cells column (suc n) = set (filled cells column n) (place_of n column) (cell_at cells n 0)

-- "next fault: line, stuck value". "A response that is not given equals the correct output": its column starts so.
abbrev pub with_fault : Table → ℕ → ℕ → Table
with_fault tb line value =
    record { tests = tb.tests; faults = tb.faults + 1; cells = filled tb.cells (tb.faults + 1) tb.tests; lines = set tb.lines tb.faults line; stuck = set tb.stuck tb.faults value }

-- "response: test, fault, output"
abbrev pub with_response : Table → ℕ → ℕ → ℕ → Table
with_response tb test fault output =
    record { tests = tb.tests; faults = tb.faults; cells = set tb.cells (place_of test (fault + 1)) output; lines = tb.lines; stuck = tb.stuck }

-- fault f has another line or another stuck value
unfoldable pub differs : List ℕ → List ℕ → ℕ → ℕ → ℕ → Bool
differs lines stuck line value f = not (both (eqb (get_or lines f 0) line) (eqb (get_or stuck f 0) value))
