-- Small tables: a row for each test, the correct output first, then that of each fault. The sentences are document 01's.
-- Assumes nothing.
use mathlib.Core.List.{List, [], ◌∷◌}
use Prim.Native.Nat.{ℕ, suc}
use lib.ListN.{length, set}
use Rattle.folds.specs.Fold.{listed, onto}
use Rattle.table.specs.Table.{place_of, empty_table}
use Rattle.table.specs.declared.Table.{Table}

-- row t from column c on
unfoldable pub row_from : ℕ → ℕ → List ℕ → List ℕ → List ℕ
row_from t c [] cells = cells
row_from t c (v ∷ row) cells = set (row_from t (suc c) row cells) (place_of t c) v

-- the rows from t on
unfoldable pub rows_from : ℕ → List (List ℕ) → List ℕ → List ℕ
rows_from t [] cells = cells
rows_from t (row ∷ rows) cells = row_from t 0 row (rows_from (suc t) rows cells)

-- the faults have the lines 1, 2, .. and are stuck at 0
unfoldable pub small : ℕ → List (List ℕ) → Table
small faults rows = record {
  tests = length rows;
  faults = faults;
  cells = rows_from 0 rows empty_table.cells;
  lines = onto (listed suc faults) empty_table.lines;
  stuck = empty_table.stuck;
}

-- one test and a fault that it sees
unfoldable pub seen : Table
seen = small 1 ((0 ∷ 1 ∷ []) ∷ [])

-- "The same without its response"
unfoldable pub unseen : Table
unseen = small 1 ((0 ∷ 0 ∷ []) ∷ [])

-- "Two equal tests and one fault they see"
unfoldable pub equal : Table
equal = small 1 ((0 ∷ 1 ∷ []) ∷ (0 ∷ 1 ∷ []) ∷ [])

-- "Two tests, correct 0 0; fault a gives 1 1, fault b gives 1 2"
unfoldable pub two : Table
two = small 2 ((0 ∷ 1 ∷ 1 ∷ []) ∷ (0 ∷ 1 ∷ 2 ∷ []) ∷ [])

-- "Six faults; test 0 sees the 1st, 2nd, 4th, 5th, test 1 the first three, test 2 the last three"
unfoldable pub six : Table
six = small 6 ((0 ∷ 1 ∷ 1 ∷ 0 ∷ 1 ∷ 1 ∷ 0 ∷ []) ∷ (0 ∷ 1 ∷ 1 ∷ 1 ∷ 0 ∷ 0 ∷ 0 ∷ []) ∷ (0 ∷ 0 ∷ 0 ∷ 0 ∷ 1 ∷ 1 ∷ 1 ∷ []) ∷ [])

-- test 1 sees what test 0 sees and one fault more, which test 2 sees too
unfoldable pub more : Table
more = small 3 ((0 ∷ 1 ∷ 0 ∷ 0 ∷ []) ∷ (0 ∷ 1 ∷ 1 ∷ 0 ∷ []) ∷ (0 ∷ 0 ∷ 1 ∷ 1 ∷ []) ∷ [])
