-- The book of a table is a list of bytes. Assumes nothing.
use Prim.Native.Nat.{ℕ, ◌+◌, ◌<◌}
use native.Mathlib.Omega.{arith}
use Rattle.folds.specs.Fold.{joined, always}
use Rattle.folds.proofs.All.{AllOf, all_of, all_read, all_append, joined_all}
use Rattle.table.specs.Table.{output_at}
use Rattle.table.specs.WellFormed.{WellFormed, OfType}
use Rattle.table.specs.declared.Table.{Table}
use Rattle.table.proofs.Stored.{cell_byte}
use Rattle.book.specs.BookOf.{test_bytes, fault_bytes, response_bytes, answers_wrong, responses_of, book_of}
use Rattle.records.specs.Step.{record_bytes}
use Rattle.records.specs.declared.Record.TheVariants.{End}
use Rattle.book.specs.Given.{Bytes}

abbrev pub byte : ℕ → Type 0
byte x = x < 256

module _ (tb : Table) (w : WellFormed tb) (o : OfType tb) where
  output : (t c : ℕ) → output_at tb t c < 256
  output t c = cell_byte tb.cells o.cells_bytes t c

  test_bytes_lem : (t : ℕ) → AllOf byte (test_bytes tb t)
  unfolding test_bytes
  test_bytes_lem t = all_of byte (test_bytes tb t) (omega arith, (output t 0, tt))

  fault_bytes_lem : (f : ℕ) → AllOf byte (fault_bytes tb f)
  unfolding fault_bytes
  fault_bytes_lem f = all_of byte (fault_bytes tb f) (omega arith, (o.lines_bytes f, (o.stuck_bytes f, tt)))

  responses_bytes : (f : ℕ) → f < tb.faults → AllOf byte (responses_of tb f)
  unfolding responses_of response_bytes
  responses_bytes f k = joined_all byte (answers_wrong tb f) (response_bytes tb f) tb.tests (λ t h e.
      all_of byte (response_bytes tb f t) (omega arith, (omega (arith, w.tests_fit), (omega (arith, w.faults_fit), (output t (f + 1), tt)))))

  end_bytes : AllOf byte (record_bytes (End tb.tests tb.faults))
  end_bytes = all_of byte (record_bytes (End tb.tests tb.faults)) (omega arith, (omega (arith, w.tests_fit), (omega (arith, w.faults_fit), tt)))

  pub book_all : AllOf byte (book_of tb)
  unfolding book_of
  book_all =
      all_append byte (joined always (test_bytes tb) tb.tests) _ (joined_all byte always (test_bytes tb) tb.tests (λ t h e. test_bytes_lem t))
      (all_append byte (joined always (fault_bytes tb) tb.faults) _ (joined_all byte always (fault_bytes tb) tb.faults (λ f h e. fault_bytes_lem f))
      (all_append byte (joined always (responses_of tb) tb.faults) _ (joined_all byte always (responses_of tb) tb.faults (λ f h e. responses_bytes f h)) end_bytes))

  pub book_bytes : Bytes (book_of tb)
  book_bytes = all_read byte (omega arith) (book_of tb) book_all
