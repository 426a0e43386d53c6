-- The reader accepts exactly the books of well-formed tables. The sentences are document 01's. Assumes nothing.
use mathlib.Core.List.{List}
use mathlib.Core.Path.{◌≡◌, sym, ap, ◌∙◌}
use Prim.Native.Nat.{ℕ, ◌≤◌}
use lib.ListN.{length}
use Rattle.std.specs.Prelude.{Ok}
use Rattle.table.specs.WellFormed.{WellFormed, OfType}
use Rattle.table.specs.declared.Reading.{Reading}
use Rattle.table.specs.declared.Table.{Table}
use Rattle.book.specs.BookOf.{book_of}
use Rattle.book.specs.Given.{Bytes}
use Rattle.book.specs.Reading.{read_book}
use Rattle.book_laws.specs.Accepts.{Accepts, BookOfTable}
use Rattle.book_laws.proofs.Accepted.{accepted_gave, accepts_whole, book_accepted}
use Rattle.book_laws.proofs.Bytes.{book_bytes}
use Rattle.book_laws.proofs.Good.{book_most}
use Rattle.book_laws.proofs.Grown.{long_of}

-- "Those are the tables that some book gives, and no others.": an accepted book is that of a well-formed table
pub accepts_book : (book : List ℕ) (tb : Table) → Bytes book → Accepts book tb → BookOfTable book tb
accepts_book book tb b h =
    let g = accepted_gave book tb h in
    record { typed = g.typed b; formed = g.formed; is = g.is_book }

-- and such a book is accepted, with that table
pub book_accepts : (book : List ℕ) (tb : Table) → BookOfTable book tb → Accepts book tb
book_accepts book tb h = rw h.is (book_accepted tb h.formed (long_of h.typed))

-- a verdict of acceptance comes with the book's own table and length
pub accepted_book : (book : List ℕ) → Bytes book → (read_book book).verdict ≡ Ok tt → BookOfTable book (read_book book).table
accepted_book book b h = accepts_book book _ b (accepts_whole book h)

-- every well-formed table has one, and it is made of bytes
pub some_book : (tb : Table) → OfType tb → WellFormed tb → Bytes (book_of tb) × Accepts (book_of tb) tb
some_book tb o w = (book_bytes tb w o, book_accepted tb w (long_of o))

-- two tables with the same book are equal
pub one_table : (a b : Table) → OfType a → WellFormed a → OfType b → WellFormed b → book_of a ≡ book_of b → a ≡ b
one_table a b oa wa ob wb e =
    ap (λ (r : Reading). r.table) (sym (book_accepted a wa (long_of oa)) ∙ ap read_book e ∙ book_accepted b wb (long_of ob))

-- "The longest book has 5,991 bytes": no accepted book is longer
pub accepted_most : (book : List ℕ) → (read_book book).verdict ≡ Ok tt → length book ≤ 5991
accepted_most book h =
    let g = accepted_gave book _ (accepts_whole book h) in
    rw g.is_book (book_most _ g.formed)
