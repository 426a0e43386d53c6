-- Versions that the promises of the calls on a table exclude, each by what it answers on a small table and a set of its tests,
-- given as the sum of 2 ^ t over its tests t. The sentences are document 01's.
-- Assumes nothing.
use mathlib.Core.Bool.{true}
use mathlib.Core.List.{List, [], ◌∷◌}
use mathlib.Core.Path.{◌≡◌, refl, sym, ◌∙◌}
use Prim.Native.Nat.{ℕ, ◌≤◌}
use lib.ListN.{length, take}
use Rattle.folds.specs.Fold.{count, every, first, joined, single}
use Rattle.sets.specs.Sets.{bit, has, within}
use Rattle.table.specs.Answers.{answer_value}
use Rattle.table.specs.Table.{cell_at, empty_table, place_of}
use Rattle.table.specs.Test.{well_formed}
use Rattle.table.specs.declared.Classes.{Classes}
use Rattle.table.specs.declared.Refusal.{Refusal}
use Rattle.table.specs.declared.Suspects.{Suspects}
use Rattle.std.specs.Prelude.{Result, Ok, Err}
use Rattle.table.proofs.Tested.{tested}
use Rattle.terms.specs.Columns.{agrees, alike, apart, lowest, output_of}
use Rattle.classes.specs.Classes.{answer_classes, classes_in, classes_of}
use Rattle.classes.proofs.Meaning.{count_given}
use Rattle.lent.specs.Lent.{set_number, WritesOnto}
use Rattle.dictionary.specs.Dictionary.{dictionary_of}
use Rattle.witness.specs.Witness.{above, separates, sheet_of, witness_of}
use Rattle.suspects.specs.Suspects.{answer_suspects, answer_list, equal, suspect, suspects_of}
use Rattle.suspects.proofs.Meaning.{counted, list_counted}
use Rattle.choice_laws.proofs.Tables.{row_from, rows_from, small, two}
use Rattle.choice_laws.proofs.Excluded.{two_formed}
use Rattle.excluded.proofs.Left.{no_other, refused_differs, writes_something, no_other_length}

-- ---- "Two tests, correct 0 0; fault a gives 1 1, fault b gives 1 2"

-- the rows of its three classes under both tests
abbrev pub rows : List ℕ
rows = 0 ∷ 0 ∷ 1 ∷ 1 ∷ 1 ∷ 2 ∷ []

-- the witnesses of class 0 with 1, of 0 with 2, and of 1 with 2
abbrev pub witnesses : List ℕ
witnesses = 0 ∷ 0 ∷ 1 ∷ []

well_formed_lem : well_formed two ≡ true
well_formed_lem = tested two two_formed

-- the sets {0, 1} and {0} are of its tests
known : (within 3 two.tests ≡ true) × (within 1 two.tests ≡ true)
unfolding two small within
known = (refl, refl)

unrefused : set_number two 3 ≡ 0
unfolding set_number
unrefused = rw (well_formed_lem, known.0)

dictionary_bytes : dictionary_of two 3 ≡ rows
unfolding two small row_from rows_from empty_table place_of cell_at joined single has bit output_of lowest apart alike every agrees
dictionary_bytes = refl

sheet_bytes : sheet_of two 3 ≡ witnesses
unfolding two small row_from rows_from empty_table place_of cell_at joined single has bit first separates witness_of above lowest apart alike every agrees
sheet_bytes = refl

classified : classes_of two ≡ Ok (classes_in two)
unfolding classes_of
classified = rw well_formed_lem

three_classes : (answer_classes (classes_of two)).count ≡ 3
unfolding two small row_from rows_from empty_table place_of cell_at count lowest apart alike every agrees
three_classes = count_given two well_formed_lem (classes_of two) refl

-- under test 0 both faults answer 1
two_suspects : (answer_suspects (suspects_of two 1 (1 ∷ []))).count ≡ 2
unfolding two small row_from rows_from empty_table place_of cell_at joined single has bit count suspect equal output_of
two_suspects = counted two 1 (1 ∷ []) well_formed_lem known.1 refl (suspects_of two 1 (1 ∷ [])) refl

-- ---- what the promises exclude

-- "a dictionary call that writes nothing"
pub dictionary_writes_nothing : (d : List ℕ) → 6 ≤ length d → (take 6 d ≡ rows → ⊥) → (r : Result ℕ Refusal) → WritesOnto (set_number two 3) (dictionary_of two 3) d r d → ⊥
dictionary_writes_nothing = writes_something (set_number two 3) (dictionary_of two 3) rows unrefused dictionary_bytes

-- the same of the witness sheet
pub sheet_writes_nothing : (d : List ℕ) → 3 ≤ length d → (take 3 d ≡ witnesses → ⊥) → (r : Result ℕ Refusal) → WritesOnto (set_number two 3) (sheet_of two 3) d r d → ⊥
sheet_writes_nothing = writes_something (set_number two 3) (sheet_of two 3) witnesses unrefused sheet_bytes

-- "a class, byte or test count made up": the bytes of the dictionary,
pub made_up_dictionary_bytes : (d : List ℕ) → 6 ≤ length d → (n : ℕ) → (n ≡ 6 → ⊥) → (r : Result ℕ Refusal) (e : List ℕ) → WritesOnto (set_number two 3) (dictionary_of two 3) d r e → answer_value r ≡ n → ⊥
made_up_dictionary_bytes = no_other_length (set_number two 3) (dictionary_of two 3) rows unrefused dictionary_bytes

-- of the witness sheet,
pub made_up_sheet_bytes : (d : List ℕ) → 3 ≤ length d → (n : ℕ) → (n ≡ 3 → ⊥) → (r : Result ℕ Refusal) (e : List ℕ) → WritesOnto (set_number two 3) (sheet_of two 3) d r e → answer_value r ≡ n → ⊥
made_up_sheet_bytes = no_other_length (set_number two 3) (sheet_of two 3) witnesses unrefused sheet_bytes

-- the classes,
pub made_up_classes : (n : ℕ) → (n ≡ 3 → ⊥) → (c : Result Classes Refusal) → c ≡ classes_of two → (answer_classes c).count ≡ n → ⊥
made_up_classes = no_other (λ (c : Result Classes Refusal). (answer_classes c).count) (classes_of two) 3 three_classes

-- and the suspects, by their count and by how many are listed
pub made_up_suspects : (n : ℕ) → (n ≡ 2 → ⊥) → (r : Result Suspects Refusal) → r ≡ suspects_of two 1 (1 ∷ []) → (answer_suspects r).count ≡ n → ⊥
made_up_suspects = no_other (λ (r : Result Suspects Refusal). (answer_suspects r).count) (suspects_of two 1 (1 ∷ [])) 2 two_suspects

pub made_up_list : (n : ℕ) → (n ≡ 2 → ⊥) → (r : Result Suspects Refusal) → r ≡ suspects_of two 1 (1 ∷ []) → length (answer_list r) ≡ n → ⊥
unfolding two small has bit count
made_up_list n other r e h =
    made_up_suspects n other r e
    (counted two 1 (1 ∷ []) well_formed_lem known.1 refl r e ∙ sym (list_counted two 1 (1 ∷ []) well_formed_lem known.1 refl r e) ∙ h)

-- "a reader or chooser that only ever refuses": such a version of `classify`
pub classes_only_refusing : (why : Refusal) (c : Result Classes Refusal) → c ≡ classes_of two → c ≡ Err why → ⊥
classes_only_refusing why = no_other (λ (c : Result Classes Refusal). c) (classes_of two) (Ok (classes_in two)) classified (Err why) (refused_differs why (classes_in two))
