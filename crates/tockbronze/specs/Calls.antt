-- What each call gives.
-- Assumes nothing.
use Rattle.std.specs.Prelude.{List, Result, Ok, Err, ◌⊎◌, ◌≡◌, ℕ, ◌≤◌, ◌<◌, length, take}
use Rattle.folds.specs.Fold.{listed, total}
use Rattle.sets.specs.Sets.{bit}
use Rattle.lent.specs.Lent.{set_number}
use Rattle.table.specs.Answers.{number_of, answer_number, answer_value}
use Rattle.table.specs.Table.{columns}
use Rattle.table.specs.declared.Classes.{Classes}
use Rattle.table.specs.declared.Refusal.{Refusal}
use Rattle.table.specs.declared.Suspects.{Suspects}
use Rattle.table.specs.declared.Goal.{Goal}
use Rattle.table.specs.declared.Table.{Table}
use Rattle.terms.specs.Terms.{Essential}
use Rattle.cover.specs.Answer.{Gives, AsideTest}
use Rattle.choice.specs.Answer.{ChoiceIs}
use Rattle.book.specs.Reading.{read_book}
use Rattle.classes.specs.Classes.{classes_of, answer_classes}
use Rattle.classes.specs.Undetectable.{UndetectableIn}
use Rattle.suspects.specs.Suspects.{suspects_of, answer_suspects, answer_list}
use Rattle.dictionary.specs.Dictionary.{dictionary_of}
use Rattle.witness.specs.Witness.{sheet_of}
use Rattle.report.specs.Answer.{IsText}
use Rattle.flat.specs.Flat.{lent_table, bytes_of}
use Rattle.flat.specs.Packed.{packed, goal_of, unknown_goal}
use Rattle.flat.specs.Writes.{CallWrites}

-- r is the answer that the library's own call gives, as one number
pub record FromChosen (Given : Result ℕ Refusal → Type 0) (r : ℕ) : Type 0 where
  pub answer : Result ℕ Refusal
  pub given : Given answer
  pub is : r ≡ packed (answer_number answer) (answer_value answer)

-- the answer for a goal on the table that the bytes give; 99 for what is no goal
abbrev pub ForGoal : (Table → Goal → Result ℕ Refusal → Type 0) → List ℕ → ℕ → ℕ → Type 0
ForGoal Given bytes goal r =
    ((goal ≤ 1) × FromChosen (Given (lent_table bytes) (goal_of goal)) r)
    ⊎ ((1 < goal) × (r ≡ unknown_goal (lent_table bytes)))

abbrev pub GivesAside : Table → Goal → Result ℕ Refusal → Type 0
GivesAside tb goal = Gives tb (AsideTest tb goal)

abbrev pub GivesEssential : Table → Goal → Result ℕ Refusal → Type 0
GivesEssential tb goal = Gives tb (Essential tb goal)

abbrev pub GivesChoice : ℕ → Table → Goal → Result ℕ Refusal → Type 0
GivesChoice cap tb goal = ChoiceIs tb goal cap

abbrev pub AsideCall : List ℕ → ℕ → ℕ → Type 0
AsideCall bytes goal r = ForGoal GivesAside bytes goal r

abbrev pub EssentialCall : List ℕ → ℕ → ℕ → Type 0
EssentialCall bytes goal r = ForGoal GivesEssential bytes goal r

abbrev pub ChooseCall : List ℕ → ℕ → ℕ → ℕ → Type 0
ChooseCall bytes goal cap r = ForGoal (GivesChoice cap) bytes goal r

-- ---- calls that write to a lent buffer

-- the value is the count of the bytes that are written
abbrev pub CallCounts : ℕ → List ℕ → List ℕ → ℕ → List ℕ → Type 0
CallCounts earlier answer entry r exit = CallWrites earlier (length answer) answer entry r exit

abbrev pub DictionaryCall : List ℕ → ℕ → List ℕ → ℕ → List ℕ → Type 0
DictionaryCall bytes set entry r exit =
    CallCounts (set_number (lent_table bytes) set) (dictionary_of (lent_table bytes) set) entry r exit

abbrev pub SheetCall : List ℕ → ℕ → List ℕ → ℕ → List ℕ → Type 0
SheetCall bytes set entry r exit =
    CallCounts (set_number (lent_table bytes) set) (sheet_of (lent_table bytes) set) entry r exit

pub record ReportCall (book entry : List ℕ) (r : ℕ) (exit : List ℕ) : Type 0 where
  pub text : List ℕ
  pub is_text : IsText book text
  pub writes : CallCounts 0 text entry r exit

-- the class numbers of the first n columns, with the number of classes
abbrev pub ClassesWritten : ℕ → Result Classes Refusal → List ℕ → ℕ → List ℕ → Type 0
ClassesWritten n a entry r exit =
    CallWrites (answer_number a) (answer_classes a).count (take n (answer_classes a).of) entry r exit

abbrev pub ClassesCall : List ℕ → List ℕ → ℕ → List ℕ → Type 0
ClassesCall bytes entry r exit = ClassesWritten (columns (lent_table bytes)) (classes_of (lent_table bytes)) entry r exit

-- the columns that are suspects, with their count
abbrev pub SuspectsWritten : Result Suspects Refusal → List ℕ → ℕ → List ℕ → Type 0
SuspectsWritten a entry r exit =
    CallWrites (answer_number a) (answer_suspects a).count (answer_list a) entry r exit

abbrev pub SuspectsCall : List ℕ → ℕ → List ℕ → List ℕ → ℕ → List ℕ → Type 0
SuspectsCall bytes set seen entry r exit = SuspectsWritten (suspects_of (lent_table bytes) set seen) entry r exit

-- one byte for each fault, 1 in the set, 0 not, with how many are
abbrev pub MarksWritten : Table → Result ℕ Refusal → List ℕ → ℕ → List ℕ → Type 0
MarksWritten tb a entry r exit =
    CallWrites (answer_number a) (total (bit (answer_value a)) tb.faults) (listed (bit (answer_value a)) tb.faults) entry r exit

-- the same for the undetectable faults
pub record UndetectableCall (bytes entry : List ℕ) (r : ℕ) (exit : List ℕ) : Type 0 where
  pub answer : Result ℕ Refusal
  pub given : UndetectableIn (lent_table bytes) answer
  pub writes : MarksWritten (lent_table bytes) answer entry r exit

-- ---- reading

-- the bytes of an accepted book's table, with the place; of a refused book the number and the place, and the buffer stays
abbrev pub ReadWritten : Result (Unit {0}) Refusal → ℕ → Table → List ℕ → ℕ → List ℕ → Type 0
ReadWritten (Ok done) place tb entry r exit = CallWrites 0 place (bytes_of tb) entry r exit
ReadWritten (Err why) place tb entry r exit = (r ≡ packed (number_of why) place) × (exit ≡ entry)

abbrev pub ReadCall : List ℕ → List ℕ → ℕ → List ℕ → Type 0
ReadCall book entry r exit =
    ReadWritten (read_book book).verdict (read_book book).place (read_book book).table entry r exit
