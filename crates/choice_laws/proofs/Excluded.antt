-- Versions that the promise of `choose` excludes, each by what it answers on a small table. The sentences are document 01's.
-- Assumes nothing.
use mathlib.Core.Bool.{Bool, true}
use mathlib.Core.List.{List, [], ◌∷◌}
use mathlib.Core.Path.{◌≡◌, refl, ap}
use Prim.Native.Nat.{ℕ, ◌<◌}
use native.Mathlib.Omega.{arith}
use Rattle.folds.specs.Fold.{both, every, some, total, joined, single, always, onto, count, first}
use Rattle.folds.proofs.Bools.{both_left, both_right}
use Rattle.std.specs.Prelude.{Ok, Err}
use Rattle.sets.specs.Sets.{bit, has, within, share, one}
use Rattle.sets.specs.Collect.{with_test, set_of}
use Rattle.sets.proofs.Bits.{below_of_bits}
use Rattle.sets.proofs.Weight.{size_most}
use Rattle.table.specs.Answers.{answer_value}
use Rattle.table.specs.Table.{place_of, cell_at, empty_table}
use Rattle.table.specs.Test.{differ, fresh, label_right, cell_right, row_right, well_formed}
use Rattle.table.specs.WellFormed.{WellFormed}
use Rattle.table.specs.declared.Goal.{Goal}
use Rattle.table.specs.declared.Goal.TheVariants.{Detect, Diagnose}
use Rattle.table.specs.declared.Refusal.{Refusal}
use Rattle.table.specs.declared.Table.{Table}
use Rattle.table.proofs.Tested.{formed}
use Rattle.terms.specs.Choice.{Choice}
use Rattle.terms.specs.Columns.{agrees, alike, apart as unlike, class_number, lowest, lowest_of, output_of}
use Rattle.terms.specs.Terms.{TestOf, class_of, signature}
use Rattle.cover.specs.Masks.{goal_pair, differs, mask_of, goal_mask, counts, mask_row, masks_of}
use Rattle.choice.specs.Answer.{ChoiceIs}
use Rattle.choice.proofs.Pins.{apart, choose_pins}
use Rattle.choice_laws.proofs.Tables.{row_from, rows_from, small, seen, unseen, equal, two, six, more}
use Rattle.choice_laws.proofs.Small.{same_in, leads_in, precedes, hits_at, hits, hitting, each_reaching, is_choice, choice_by}

-- ---- what the promise leaves: a table, a goal, and the choice

abbrev Row : Type 0
Row = Table × Goal × ℕ

abbrev rows : List Row
rows =
    (seen, Detect, 1)
    ∷ (unseen, Detect, 0)
    ∷ (equal, Detect, 1)
    ∷ (two, Diagnose, 2)
    ∷ (six, Detect, 6)
    ∷ (more, Detect, 5)
    ∷ (two, Detect, 1)
    ∷ []

right : Row → Bool
right (tb, goal, s) = both (well_formed tb) (is_choice tb goal s)

all_rows_right : List Row → Bool
all_rows_right [] = true
all_rows_right (r ∷ rs) = both (right r) (all_rows_right rs)

abbrev Meets : Row → Type 0
Meets (tb, goal, s) = ChoiceIs tb goal 24 (Ok s)

abbrev Claims : List Row → Type 0
Claims [] = Unit {0}
Claims (r ∷ rs) = Meets r × Claims rs

meets : (r : Row) → right r ≡ true → Meets r
unfolding right
meets (tb, goal, s) h =
    let w = formed tb (both_left _ _ h) in
    let c = choice_by tb goal s (both_right (well_formed tb) _ h) in
    (w, omega arith, c, size_most s (below_of_bits 24 s (λ t e. omega (arith, c.within t e, w.tests_fit))))

claims_of : (rs : List Row) → all_rows_right rs ≡ true → Claims rs
unfolding all_rows_right
claims_of [] h = tt
claims_of (r ∷ rs) h = (meets r (both_left _ _ h), claims_of rs (both_right (right r) _ h))

left : Claims rows
unfolding right all_rows_right seen unseen equal two six more small row_from rows_from empty_table place_of cell_at onto joined single always well_formed label_right fresh differ row_right cell_right every some is_choice each_reaching hitting hits hits_at precedes leads_in same_in within has total share one bit masks_of mask_row counts goal_mask goal_pair mask_of set_of with_test differs agrees
left = claims_of rows refl

pub two_formed : WellFormed two
two_formed = left.1.1.1.0.0

-- ---- what it excludes

-- no other set meets the promise
module _ (tb : Table) (goal : Goal) (s : ℕ) (right-one : Meets (tb, goal, s)) where
  same_set : (s' : ℕ) → ChoiceIs tb goal 24 (Ok s') → s' ≡ s
  same_set s' p = ap answer_value (choose_pins tb goal 24 (Ok s') (Ok s) p right-one)

-- "a reader or chooser that only ever refuses"
pub only_refusing : (why : Refusal) → ChoiceIs seen Detect 24 (Err why) → ⊥
only_refusing why p = apart seen Detect 24 1 why left.0 p

-- "one with a constant choice"
pub constant : (s : ℕ) → ChoiceIs seen Detect 24 (Ok s) → ChoiceIs unseen Detect 24 (Ok s) → ⊥
constant s p q = omega (arith, same_set seen Detect 1 left.0 s p, same_set unseen Detect 0 left.1.0 s q)

-- "a chooser that weighs the first test truly and merely takes the rest"
pub rest_taken : (s : ℕ) → ((t : ℕ) → 0 < t → TestOf equal t → bit s t ≡ 1) → ChoiceIs equal Detect 24 (Ok s) → ⊥
unfolding equal small bit
rest_taken s takes p = omega (arith, takes 1 (omega arith) (omega arith), ap (λ (x : ℕ). bit x 1) (same_set equal Detect 1 left.1.1.0 s p))

-- "one that takes all tests"
pub all_taken : (s : ℕ) → ((t : ℕ) → TestOf equal t → bit s t ≡ 1) → ChoiceIs equal Detect 24 (Ok s) → ⊥
all_taken s takes p = rest_taken s (λ t l. takes t) p

-- "Taking the test that sees most faults, again and again: three tests in the six-fault book."
pub greedy : ChoiceIs six Detect 24 (Ok 7) → ⊥
greedy p = omega (arith, same_set six Detect 6 left.1.1.1.1.0 7 p)

-- "Setting aside a low-numbered test because a higher one separates more": then {1, 2}
pub low_aside : ChoiceIs more Detect 24 (Ok 6) → ⊥
low_aside p = omega (arith, same_set more Detect 5 left.1.1.1.1.1.0 6 p)

-- "Treating a fault as told apart because it is detected": then {0}
pub only_detecting : ChoiceIs two Diagnose 24 (Ok 1) → ⊥
only_detecting p = omega (arith, same_set two Diagnose 2 left.1.1.1.0 1 p)

-- "Demanding separation of pairs that the whole table can't separate, and so refusing."
pub demanding : (why : Refusal) → ChoiceIs unseen Detect 24 (Err why) → ⊥
demanding why p = apart unseen Detect 24 0 why left.1.0 p

-- a set that detects need not tell two classes apart: under {0} the two faults of different classes have one signature
pub detects_only : Choice two Detect 1 × (signature two 1 1 ≡ signature two 1 2) × (class_of two 1 ≡ class_of two 2 → ⊥)
unfolding two small row_from rows_from empty_table place_of cell_at joined single has bit output_of class_number count lowest unlike alike lowest_of first every agrees
detects_only = (left.1.1.1.1.1.1.0.2, refl, λ e. let z : ◌≡◌ {A = ℕ} 1 2 = e in omega arith)
