-- What the start of a book gives. The sentences are document 01's.
-- Assumes nothing.
use Rattle.std.specs.Prelude.{List, ◌≡◌, ℕ, ◌<◌, get_or, Ok, Some}
use Rattle.records.specs.declared.cursor.Cursor.{Cursor}
use Rattle.records.specs.declared.Stepped.{Stepped}
use Rattle.records.specs.declared.Record.{Record}
use Rattle.records.specs.declared.SoFar.{SoFar}
use Rattle.records.specs.Step.{start, step_at}

-- each is a byte
abbrev pub Bytes : List ℕ → Type 0
Bytes book = (i : ℕ) → get_or book i 0 < 256

-- the place after some records of the book, and what has been read then
pub data Reached (book : List ℕ) : ℕ → SoFar → Type 0 where
  begun : Reached book 0 start
  read : {place : ℕ} {sofar : SoFar} → Reached book place sofar → (r : Record) → (step_at book place sofar).outcome ≡ Ok (Some r)
      → Reached book (step_at book place sofar).place (step_at book place sofar).sofar

-- some start of a book gives the reading so far
abbrev pub SomeStart : SoFar → Type 0
SomeStart sofar = (book : List ℕ) × (place : ℕ) × Bytes book × Reached book place sofar

-- what a step says after some start of a book is what the cursor's step says
abbrev pub StepsBy : (Cursor → Stepped → Type 0) → Type 0
StepsBy said = (c : Cursor) (s : Stepped) → Reached c.book.now c.place c.sofar → said c s → s ≡ step_at c.book.now c.place c.sofar
