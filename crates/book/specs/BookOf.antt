-- The one book of a table. The sentences are document 01's.
-- Assumes nothing.
use Rattle.std.specs.Prelude.{Bool, not, List, ◌++◌, ℕ, ◌+◌, eqb}
use Rattle.folds.specs.Fold.{joined, always}
use Rattle.table.specs.Table.{output_at, line_of, stuck_of}
use Rattle.table.specs.declared.Table.{Table}
use Rattle.records.specs.declared.Record.TheVariants.{Test, Fault, Response, End}
use Rattle.records.specs.Step.{record_bytes}

module _ (tb : Table) where
  unfoldable pub test_bytes : ℕ → List ℕ
  test_bytes t = record_bytes (Test (output_at tb t 0))

  unfoldable pub fault_bytes : ℕ → List ℕ
  fault_bytes f = record_bytes (Fault (line_of tb f) (stuck_of tb f))

  unfoldable pub response_bytes : ℕ → ℕ → List ℕ
  response_bytes f t = record_bytes (Response t f (output_at tb t (f + 1)))

  -- fault f's output in test t is not the correct one
  unfoldable pub answers_wrong : ℕ → ℕ → Bool
  answers_wrong f t = not (eqb (output_at tb t 0) (output_at tb t (f + 1)))

  -- "A response that is not given equals the correct output."
  unfoldable pub responses_of : ℕ → List ℕ
  responses_of f = joined (answers_wrong f) (response_bytes f) tb.tests

  -- "All tests come first, then faults, then responses, then one end"
  unfoldable pub book_of : List ℕ
  book_of =
      joined always test_bytes tb.tests
      ++ (joined always fault_bytes tb.faults
      ++ (joined always responses_of tb.faults
      ++ record_bytes (End tb.tests tb.faults)))
