-- When a refusal is given. The sentences are document 01's.
-- Assumes nothing.
use Rattle.std.specs.Prelude.{true, false, List, [], ◌∷◌, ◌⊎◌, ◌≡◌, ℕ, ◌<◌, length, take}
use Rattle.table.specs.WellFormed.{WellFormed}
use Rattle.table.specs.declared.Table.{Table}
use Rattle.book.specs.BookOf.{book_of}
use Rattle.table.specs.declared.Refusal.{Refusal}
use Rattle.book.specs.Given.{Reached}
use Rattle.records.specs.Step.{Check, rule_at}
use Rattle.records.specs.declared.SoFar.{SoFar}

-- "Given exactly when", "Within a record the order is that of this list.": its own condition holds, and none before it
abbrev pub Refuses : Refusal → List Check → Type 0
Refuses why [] = ⊥
Refuses why (k ∷ ks) = ((k.holds ≡ true) × (k.why ≡ why)) ⊎ ((k.holds ≡ false) × Refuses why ks)

-- "Reading stops at the first wrong record.": reading got to the place, and there the refusal is given
pub record StopsAt (book : List ℕ) (why : Refusal) (place : ℕ) : Type 0 where
  pub sofar : SoFar
  pub reached : Reached book place sofar
  pub refuses : Refuses why (rule_at book place sofar).checks

-- "the byte after the end record": up to the place stands the whole book of a table, and a byte follows
pub record AfterEnd (book : List ℕ) (place : ℕ) : Type 0 where
  pub table : Table
  pub formed : WellFormed table
  pub before : take place book ≡ book_of table
  pub more : place < length book
