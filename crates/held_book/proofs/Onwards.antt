-- From a book's start, record by record: no call gives 20, and each gives what the cursor's step gives. Assumes nothing.
use mathlib.Core.List.{List}
use mathlib.Core.Path.{◌≡◌, ◌∙◌}
use Prim.Native.Nat.{ℕ}
use Rattle.book.specs.Given.{Reached}
use Rattle.book.specs.Sound.{record_at}
use Rattle.records.specs.Step.{step_at}
use Rattle.records.specs.declared.SoFar.{SoFar}
use Rattle.records.specs.declared.Stepped.{Stepped}
use Rattle.book_laws.proofs.Calls.{reached_call}

-- what has been read so far passes the test
pub as_step : (book : List ℕ) (place : ℕ) (sofar : SoFar) (s : Stepped) → Reached book place sofar → s ≡ record_at book place sofar → s ≡ step_at book place sofar
as_step book place sofar s w e = e ∙ reached_call w
