-- What `report` answers. The sentences are document 01's.
-- Assumes nothing.
use Rattle.std.specs.Prelude.{List, ◌≡◌, ℕ, Result, Ok, Err}
use Rattle.book.specs.Reading.{read_book}
use Rattle.cover.specs.Answer.{AsideTest, Exactly}
use Rattle.lent.specs.Lent.{WritesOnto}
use Rattle.lines.specs.Text.{refused_text, table_text}
use Rattle.table.specs.Answers.{number_of}
use Rattle.table.specs.declared.Goal.TheVariants.{Detect, Diagnose}
use Rattle.table.specs.declared.Table.{Table}
use Rattle.table.specs.declared.Refusal.{Refusal}
use Rattle.terms.specs.Choice.{Choice}
use Rattle.terms.specs.Terms.{Essential}
use Rattle.text.specs.Text.{Adds}

-- "set-aside and essential tests for diagnose; the two choices with cap 24": no choice has more than 24 tests
pub record IsTableText (tb : Table) (text : List ℕ) : Type 0 where
  pub aside : ℕ
  pub essential : ℕ
  pub detect : ℕ
  pub diagnose : ℕ
  pub is_aside : Exactly (AsideTest tb Diagnose) aside
  pub is_essential : Exactly (Essential tb Diagnose) essential
  pub is_detect : Choice tb Detect detect
  pub is_diagnose : Choice tb Diagnose diagnose
  pub is_text : text ≡ table_text tb aside essential detect diagnose

-- the text of a reading with a verdict, a place and a table
abbrev pub TextOf : Result (Unit {0}) Refusal → ℕ → Table → List ℕ → Type 0
TextOf (Ok accepted) place tb text = IsTableText tb text
TextOf (Err why) place tb text = text ≡ refused_text (number_of why) place

-- "The program pick reads a book from standard input. For this book it prints:"
abbrev pub IsText : List ℕ → List ℕ → Type 0
IsText book text = TextOf (read_book book).verdict (read_book book).place (read_book book).table text

-- a text that has P, behind what stood on a page
pub record Paged (P : List ℕ → Type 0) (old new : List ℕ) : Type 0 where
  pub text : List ℕ
  pub is_text : P text
  pub adds : Adds text old new

-- the book's text over the front of the lent buffer; 24 exactly when the text is longer than the buffer
pub record ReportIs (book entry : List ℕ) (r : Result ℕ Refusal) (exit : List ℕ) : Type 0 where
  pub text : List ℕ
  pub is_text : IsText book text
  pub written : WritesOnto 0 text entry r exit
