-- The test of a table, clause by clause, as the code makes it. `Tested` says that it is exactly `WellFormed`.
-- Assumes nothing.
use Rattle.std.specs.Prelude.{Bool, not, List, ◌≡◌, ℕ, eqb, leb, ltb, get_or}
use Rattle.folds.specs.Fold.{pick, both, either, every, Tells}
use Rattle.table.specs.declared.Table.{Table}
use Rattle.table.specs.Table.{cell_at}
use Rattle.table.specs.WellFormed.{WellFormed}

-- the faults f and g differ in line or value
unfoldable pub differ : List ℕ → List ℕ → ℕ → ℕ → Bool
differ lines stuck f g = not (both (eqb (get_or lines f 0) (get_or lines g 0)) (eqb (get_or stuck f 0) (get_or stuck g 0)))

-- the fault f differs from every earlier one
unfoldable pub fresh : List ℕ → List ℕ → ℕ → Bool
fresh lines stuck f = every (differ lines stuck f) f

-- the label f is a new fault's, with a stuck value of 0 or 1; or zero, where f is no fault
unfoldable pub label_right : List ℕ → List ℕ → ℕ → ℕ → Bool
label_right lines stuck faults f =
    pick (ltb f faults)
    (both (leb (get_or stuck f 0) 1) (fresh lines stuck f))
    (both (eqb (get_or lines f 0) 0) (eqb (get_or stuck f 0) 0))

-- the cell of test t in column c is used, or zero
unfoldable pub cell_right : List ℕ → ℕ → ℕ → ℕ → ℕ → Bool
cell_right cells tests faults t c = either (both (ltb t tests) (leb c faults)) (eqb (cell_at cells t c) 0)

unfoldable pub row_right : List ℕ → ℕ → ℕ → ℕ → Bool
row_right cells tests faults t = every (cell_right cells tests faults t) 61

unfoldable pub well_formed : Table → Bool
well_formed tb =
    both (leb tb.tests 24)
    (both (leb tb.faults 60)
    (both (every (label_right tb.lines tb.stuck tb.faults) 60) (every (row_right tb.cells tb.tests tb.faults) 24)))

-- r says whether the table is well formed
pub record Tested (tb : Table) (r : Bool) : Type 0 where
  pub says : Tells r (WellFormed tb)
  pub is : r ≡ well_formed tb
