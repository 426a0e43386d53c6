-- A book read by the call that gives one record after the other. The sentences are document 01's.
-- Assumes nothing.
use Rattle.std.specs.Prelude.{List, ℕ, zero, suc, Err}
use Rattle.table.specs.declared.Reading.{Reading}
use Rattle.table.specs.declared.Refusal.TheVariants.{NoEnd}
use Rattle.table.specs.Table.{empty_table}
use Rattle.book.specs.Reading.{after}
use Rattle.book.specs.Sound.{record_at}
use Rattle.records.specs.declared.SoFar.{SoFar}

-- "gives the records one by one; what has been read so far goes in and comes back beside it": at most n calls, from a place on
abbrev pub calls_from : ℕ → List ℕ → ℕ → SoFar → Reading
calls_from zero book place sofar = record { verdict = Err NoEnd; place = place; table = empty_table }
calls_from (suc n) book place sofar =
    let s = record_at book place sofar in
    after s.outcome s (calls_from n book s.place s.sofar)
