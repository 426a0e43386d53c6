-- The record at a place of a book. The sentences are document 01's.
-- Assumes nothing.
use Rattle.std.specs.Prelude.{List, ◌≡◌, ℕ, ◌+◌, ◌≤◌, length, take, drop}
use Rattle.records.specs.Step.{record_bytes}
use Rattle.records.specs.declared.Record.{Record}

-- "A record is one byte of kind, then a body": its bytes stand at the place, and the next place is behind them
pub record BytesAt (book : List ℕ) (place : ℕ) (r : Record) (next : ℕ) : Type 0 where
  pub bytes : take (length (record_bytes r)) (drop place book) ≡ record_bytes r
  pub further : next ≡ place + length (record_bytes r)
  pub inside : next ≤ length book
