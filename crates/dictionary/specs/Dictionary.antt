-- The dictionary. The sentences are document 01's.
-- Assumes nothing.
use Rattle.std.specs.Prelude.{List, ℕ}
use Rattle.folds.specs.Fold.{joined}
use Rattle.table.specs.Table.{output_at, columns}
use Rattle.table.specs.declared.Table.{Table}
use Rattle.terms.specs.Columns.{lowest, outputs_under}

-- the signature under s of each class of the columns below n, in rising class number: that of its lowest column
abbrev pub rows_under : (ℕ → ℕ → ℕ) → ℕ → ℕ → ℕ → List ℕ
rows_under out tests s n = joined (lowest out tests) (outputs_under out tests s) n

-- "For k classes and a set of n tests, the dictionary is k rows of n bytes in rising class number."
abbrev pub dictionary_of : Table → ℕ → List ℕ
dictionary_of tb s = rows_under (output_at tb) tb.tests s (columns tb)
