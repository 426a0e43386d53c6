-- What a table holds: outputs by test and column, and labels. The sentences are document 01's.
-- Assumes nothing.
use Rattle.std.specs.Prelude.{List, ℕ, ◌+◌, ◌*◌, get_or, replicate}
use Rattle.table.specs.declared.Table.{Table}

-- The one definition that knows how the cells lie: row by row.
unfoldable pub place_of : ℕ → ℕ → ℕ
place_of t c = t * 61 + c

-- the output of test t in column c, of a list of cells
unfoldable pub cell_at : List ℕ → ℕ → ℕ → ℕ
cell_at cells t c = get_or cells (place_of t c) 0

-- the output of test t in column c, of a table
abbrev pub output_at : Table → ℕ → ℕ → ℕ
output_at tb t c = cell_at tb.cells t c

-- "A column is the healthy card (column 0) or fault f (column f + 1)."
abbrev pub columns : Table → ℕ
columns tb = tb.faults + 1

-- "Each fault carries a line number (0 to 255) and a stuck value (0 or 1)."
abbrev pub line_of : Table → ℕ → ℕ
line_of tb f = get_or tb.lines f 0

abbrev pub stuck_of : Table → ℕ → ℕ
stuck_of tb f = get_or tb.stuck f 0

-- "A table has 1,464 cells, all zero in an empty table (24 rows of 61)."
unfoldable pub empty_table : Table
empty_table =
    record { tests = 0; faults = 0; cells = replicate 1464 0; lines = replicate 60 0; stuck = replicate 60 0 }
