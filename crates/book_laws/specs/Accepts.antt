-- The books that the reader accepts. The sentences are document 01's.
-- Assumes nothing.
use Rattle.std.specs.Prelude.{List, ◌≡◌, ℕ, length, Ok}
use Rattle.table.specs.WellFormed.{WellFormed, OfType}
use Rattle.table.specs.declared.Table.{Table}
use Rattle.book.specs.BookOf.{book_of}
use Rattle.book.specs.Reading.{read_book}

-- "An accepted reading gives number 0, the book's length as place, and the table."
abbrev pub Accepts : List ℕ → Table → Type 0
Accepts book tb = read_book book ≡ record { verdict = Ok tt; place = length book; table = tb }

-- the book of a well-formed table
pub record BookOfTable (book : List ℕ) (tb : Table) : Type 0 where
  pub typed : OfType tb
  pub formed : WellFormed tb
  pub is : book ≡ book_of tb
