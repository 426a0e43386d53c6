-- The reading of a whole book: step after step from its start. The sentences are document 01's.
-- Assumes nothing.
use Rattle.std.specs.Prelude.{List, ℕ, zero, suc, length, Option, Some, None, Result, Ok, Err}
use Rattle.table.specs.Table.{empty_table}
use Rattle.table.specs.declared.Reading.{Reading}
use Rattle.table.specs.declared.Refusal.{Refusal}
use Rattle.table.specs.declared.Refusal.TheVariants.{NoEnd}
use Rattle.records.specs.declared.Record.{Record}
use Rattle.records.specs.declared.SoFar.{SoFar}
use Rattle.records.specs.declared.Stepped.{Stepped}
use Rattle.records.specs.Step.{start, step_at}

abbrev pub reading_of : Result (Unit {0}) Refusal → Stepped → Reading
reading_of verdict s = record { verdict = verdict; place = s.place; table = s.sofar.table }

-- "Reading stops at the first wrong record.": what a step says, where it is the last, else what follows it
abbrev pub after : Result (Option Record) Refusal → Stepped → Reading → Reading
after (Ok (Some r)) s rest = rest
after (Ok None) s rest = reading_of (Ok tt) s
after (Err why) s rest = reading_of (Err why) s

-- "Reading is a cursor over the book.": the reading from a place, in at most n steps
abbrev pub read_from : ℕ → List ℕ → ℕ → SoFar → Reading
read_from zero book place sofar = record { verdict = Err NoEnd; place = place; table = empty_table }
read_from (suc n) book place sofar =
    let s = step_at book place sofar in
    after s.outcome s (read_from n book s.place s.sofar)

-- a record has a byte at least, so that there are at most as many as bytes, and one step more
unfoldable pub read_book : List ℕ → Reading
read_book book = read_from (suc (length book)) book 0 start
