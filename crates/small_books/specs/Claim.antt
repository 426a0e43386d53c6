-- What is claimed of a book. Assumes nothing.
use Rattle.std.specs.Prelude.{List, [], ◌∷◌, ◌≡◌, ℕ, Result}
use Rattle.book.specs.Reading.{read_book}
use Rattle.choice.specs.Answer.{ChoiceIs}
use Rattle.cover.specs.Answer.{Exactly, AsideTest}
use Rattle.table.specs.Answers.{answer_number}
use Rattle.table.specs.declared.Refusal.{Refusal}
use Rattle.table.specs.declared.Goal.{Goal}
use Rattle.table.specs.declared.Reading.{Reading}
use Rattle.table.specs.declared.Table.{Table}
use Rattle.terms.specs.Choice.{Choice}
use Rattle.terms.specs.Terms.{class_count}

-- something said of an accepted book
pub data Saying : Type 0 where
  -- it has n classes
  classes : ℕ → Saying
  -- the choice for a goal
  choice : Goal → ℕ → Saying
  -- the tests set aside for a goal, and no others
  aside : Goal → ℕ → Saying
  -- what a cap gives for a goal
  capped : Goal → ℕ → Result ℕ Refusal → Saying

-- the saying is true of the table
abbrev pub TrueOf : Table → Saying → Type 0
TrueOf tb (classes n) = class_count tb ≡ n
TrueOf tb (choice goal s) = Choice tb goal s
TrueOf tb (aside goal s) = Exactly (AsideTest tb goal) s
TrueOf tb (capped goal cap r) = ChoiceIs tb goal cap r

abbrev pub AllTrue : Table → List Saying → Type 0
AllTrue tb [] = Unit {0}
AllTrue tb (x ∷ xs) = TrueOf tb x × AllTrue tb xs

-- a book, the number and the place of its reading, and what is said of its table
pub record Entry : Type 0 where
  pub book : List ℕ
  pub number : ℕ
  pub place : ℕ
  pub says : List Saying

-- the reading has the entry's number and place, and what is said is true of its table
pub record Fits (e : Entry) (r : Reading) : Type 0 where
  pub number : answer_number r.verdict ≡ e.number
  pub place : r.place ≡ e.place
  pub says : AllTrue r.table e.says

-- the claim: each entry is what its book's reading gives
abbrev pub AllHold : List Entry → Type 0
AllHold [] = Unit {0}
AllHold (e ∷ es) = Fits e (read_book e.book) × AllHold es
