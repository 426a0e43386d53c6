-- How a reading ends: at the last step, which refuses or accepts. Assumes nothing.
use mathlib.Core.Bool.{true}
use mathlib.Core.List.{List}
use mathlib.Core.Path.{◌≡◌, refl, sym}
use Prim.Native.Nat.{ℕ, zero, suc, ◌+◌, ◌≤◌, ◌<◌}
use native.Mathlib.Omega.{arith}
use lib.Dec.{eqb}
use lib.ListN.{length}
use Rattle.std.specs.Prelude.{Some, Ok, Err}
use Rattle.table.specs.declared.Reading.{Reading}
use Rattle.table.specs.declared.Refusal.{Refusal}
use Rattle.book.specs.Given.{Reached, begun, read}
use Rattle.book.specs.Reading.{reading_of, read_book}
use Rattle.records.specs.Step.{start, rank_of, refused_at, accepted_at, step_at}
use Rattle.records.specs.declared.SoFar.{SoFar}
use Rattle.records.specs.declared.Stepped.{Stepped}
use Rattle.book.proofs.Loop.{Reads, begins, turn, onwards}
use Rattle.records.proofs.Steps.{Steps, refuses, accepts, gives, steps, goes}
use Rattle.book_laws.proofs.Records.{record_of, given_record}

-- where a book's start has led, the rest of the reading is that of the book
reads_on : {book : List ℕ} {place : ℕ} {sofar : SoFar} → Reached book place sofar → Reads book place sofar
reads_on {book} begun = begins book start refl
reads_on {book} (read {place} {sofar} x r e) = onwards book place sofar (step_at book place sofar) (reads_on x) refl (Some r) e r refl

module _ {book : List ℕ} {place : ℕ} {sofar : SoFar} (x : Reached book place sofar) where
  pub refused_reading : (why : Refusal) → step_at book place sofar ≡ refused_at why place → read_book book ≡ reading_of (Err why) (refused_at why place)
  refused_reading why e = sym (turn book place sofar (refused_at why place) (reads_on x) (sym e))

  pub accepted_reading : step_at book place sofar ≡ accepted_at place sofar → read_book book ≡ reading_of (Ok tt) (accepted_at place sofar)
  accepted_reading e = sym (turn book place sofar (accepted_at place sofar) (reads_on x) (sym e))

-- the last step of a reading
pub data Ends (book : List ℕ) : Reading → Type 0 where
  refused : {place : ℕ} {sofar : SoFar} → Reached book place sofar → (why : Refusal) → step_at book place sofar ≡ refused_at why place → Ends book (reading_of (Err why) (refused_at why place))
  accepted : {place : ℕ} {sofar : SoFar} → Reached book place sofar → length book ≤ place → eqb (rank_of sofar.stage) 3 ≡ true → step_at book place sofar ≡ accepted_at place sofar → Ends book (reading_of (Ok tt) (accepted_at place sofar))

-- the step at a place that a start of the book has led to is the last one, or leads on
last_or_on : {book : List ℕ} {place : ℕ} {sofar : SoFar} → Reached book place sofar → {s : Stepped} → Steps book place sofar s → step_at book place sofar ≡ s
    → (place < length book → place < s.place → Reached book s.place s.sofar → Ends book (read_book book)) → Ends book (read_book book)
last_or_on x (refuses why) e k = rw (refused_reading x why e) (refused x why e)
last_or_on x (accepts l u) e k = rw (accepted_reading x e) (accepted x l u e)
last_or_on x {s} (gives l u g) e k = k l (goes (reads_on x).counts (gives l u g) (record_of g) (given_record g)).further (rw e at (read x (record_of g) (rw e (given_record g))))

ends_from : (n : ℕ) (book : List ℕ) (place : ℕ) (sofar : SoFar) → Reached book place sofar → length book ≤ place + n → Ends book (read_book book)
ends_from zero book place sofar x h = last_or_on x (steps book place sofar) refl (λ l m y. absurd (omega arith))
ends_from (suc n) book place sofar x h = last_or_on x (steps book place sofar) refl (λ l m y. ends_from n book _ _ y (omega arith))

pub ends : (book : List ℕ) → Ends book (read_book book)
ends book = ends_from (length book) book 0 start begun (omega arith)
