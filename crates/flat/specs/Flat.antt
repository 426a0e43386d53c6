-- A table lent as 1,586 bytes: the number of tests, the number of faults, 1,464 cells row by row of 61, 60 lines, 60 stuck
-- values. This layout is the crate's own: the cells go through `place_of`, wherever the table has them.
-- Assumes nothing.
use Rattle.std.specs.Prelude.{List, [], ◌∷◌, ◌++◌, ℕ, zero, suc, ◌+◌, ◌/◌, ◌%◌, eqb, length, get_or, set, replicate}
use Rattle.folds.specs.Fold.{pick, listed}
use Rattle.table.specs.Table.{place_of, output_at}
use Rattle.table.specs.declared.Table.{Table}

unfoldable pub byte_at : List ℕ → ℕ → ℕ → ℕ
byte_at bytes from i = get_or bytes (from + i) 0

-- the first n of the lent cells, each at its place: cell k is that of test k / 61 in column k % 61
unfoldable pub cells_filled : List ℕ → ℕ → List ℕ
cells_filled bytes zero = replicate 1464 0
cells_filled bytes (suc k) = set (cells_filled bytes k) (place_of (k / 61) (k % 61)) (get_or bytes (k + 2) 0)

unfoldable pub table_of : List ℕ → Table
table_of bytes = record {
  tests = get_or bytes 0 0;
  faults = get_or bytes 1 0;
  cells = cells_filled bytes 1464;
  lines = listed (byte_at bytes 1466) 60;
  stuck = listed (byte_at bytes 1526) 60;
}

-- a table that is not well formed, for bytes that are no table
unfoldable pub no_table : Table
no_table =
    record { tests = 25; faults = 0; cells = replicate 1464 0; lines = replicate 60 0; stuck = replicate 60 0 }

-- the table that the bytes give a call
unfoldable pub lent_table : List ℕ → Table
lent_table bytes = pick (eqb (length bytes) 1586) (table_of bytes) no_table

-- cell k, where `out` gives the output of a test in a column
unfoldable pub cell_of : (ℕ → ℕ → ℕ) → ℕ → ℕ
cell_of out k = out (k / 61) (k % 61)

unfoldable pub label_of : List ℕ → ℕ → ℕ
label_of labels f = get_or labels f 0

-- the bytes of a table
unfoldable pub bytes_of : Table → List ℕ
bytes_of tb =
    (tb.tests ∷ []) ++ ((tb.faults ∷ []) ++ (listed (cell_of (output_at tb)) 1464 ++ (listed (label_of tb.lines) 60 ++ listed (label_of tb.stuck) 60)))
