-- What the reader keeps. The sentence is document 01's.
-- Assumes nothing.
use Rattle.std.specs.Prelude.{List, ◌≡◌, ℕ}
use Rattle.std.specs.Borrow.{Bor}
use Rattle.held_book.specs.declared.Reader.{Reader}

-- "a reader that keeps the lent book and its next place": the very slice that was lent, and the place
abbrev pub Keeps : Bor (List ℕ) → ℕ → Reader → Type 0
Keeps book place r = (r.book ≡ book) × (r.at ≡ place)
