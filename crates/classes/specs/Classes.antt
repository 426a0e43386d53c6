-- The answer of `classify`. The sentences are document 01's.
-- Assumes nothing.
use Rattle.std.specs.Prelude.{List, ℕ, replicate, Result, Ok, Err}
use Rattle.folds.specs.Fold.{pick, listed, onto}
use Rattle.table.specs.Table.{output_at, columns}
use Rattle.table.specs.Test.{well_formed}
use Rattle.table.specs.declared.Classes.{Classes}
use Rattle.table.specs.declared.Refusal.{Refusal}
use Rattle.table.specs.declared.Refusal.TheVariants.{NotWellFormed}
use Rattle.table.specs.declared.Table.{Table}
use Rattle.terms.specs.Columns.{class_number}
use Rattle.terms.specs.Terms.{class_count}

-- no column's number
unfoldable pub unnumbered : List ℕ
unnumbered = replicate 61 0

-- "Classes are numbered by their lowest column": the number of each column, and zero past the last
unfoldable pub numbers_of : (ℕ → ℕ → ℕ) → ℕ → ℕ → List ℕ
numbers_of out tests n = onto (listed (class_number out tests) n) unnumbered

abbrev pub classes_in : Table → Classes
classes_in tb = record { count = class_count tb; of = numbers_of (output_at tb) tb.tests (columns tb) }

-- "20 | a call's table is not well formed"
unfoldable pub classes_of : Table → Result Classes Refusal
classes_of tb = pick (well_formed tb) (Ok (classes_in tb)) (Err NotWellFormed)

-- "A refused call returns the number with the empty set, list or count 0."
abbrev pub answer_classes : Result Classes Refusal → Classes
answer_classes (Ok classes) = classes
answer_classes (Err why) = record { count = 0; of = unnumbered }
