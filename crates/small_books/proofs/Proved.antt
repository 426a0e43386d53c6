-- Document 01's starred small books: one claim, computed over the whole list. Assumes nothing.
use mathlib.Core.Bool.{Bool, true}
use mathlib.Core.List.{List, [], ◌∷◌}
use mathlib.Core.Path.{◌≡◌, refl}
use borrow.Author.Tests.{eqb-true}
use lib.Dec.{eqb}
use Rattle.folds.specs.Fold.{both, always, count, every, joined, single, some, total}
use Rattle.folds.proofs.Bools.{both_left, both_right}
use Rattle.sets.specs.Sets.{bit, has, one, share, within}
use Rattle.table.specs.Answers.{answer_number}
use Rattle.table.specs.declared.Reading.{Reading}
use Rattle.table.specs.declared.Table.{Table}
use Rattle.table.specs.Table.{cell_at, empty_table, place_of}
use Rattle.table.specs.Test.{cell_right, differ, fresh, label_right, row_right, well_formed}
use Rattle.terms.specs.Terms.{class_count}
use Rattle.terms.specs.Columns.{agrees, alike, apart, lowest}
use Rattle.grow.specs.Grow.{differs, filled}
use Rattle.book.specs.Reading.{read_book}
use Rattle.records.specs.Step.{edge_rule, end_rule, fault_rule, first_of, kind_rule, response_rule, rule_at, step_at, test_rule, unknown_rule}
use Rattle.cover.specs.Answer.{kept_set}
use Rattle.cover.specs.Kept.{covers, follows, follows_at, has_at, kept, outdone, outdone_by, used}
use Rattle.small_books.specs.Books.{small_books}
use Rattle.small_books.specs.Claim.{Saying, classes, choice, aside, capped, TrueOf, AllTrue, Entry, Fits, AllHold}
use Rattle.choice_laws.proofs.Small.{choice_by, each_reaching, hits, hits_at, hitting, is_choice, leads_in, precedes, same_in}
use Rattle.small_books.proofs.Test.{aside_by, cap_gives, capped_by, exceeds, is_aside_test, is_capped}
use Rattle.sets.specs.Collect as collect
use Rattle.cover.specs.Masks as masks

-- ---- the tests of an entry, and what they say

is_true : Table → Saying → Bool
is_true tb (classes n) = eqb (class_count tb) n
is_true tb (choice goal s) = is_choice tb goal s
is_true tb (aside goal s) = is_aside_test tb goal s
is_true tb (capped goal cap r) = is_capped tb goal cap r

true_by : (tb : Table) (x : Saying) → is_true tb x ≡ true → TrueOf tb x
unfolding is_true
true_by tb (classes n) h = eqb-true _ _ h
true_by tb (choice goal s) h = choice_by tb goal s h
true_by tb (aside goal s) h = aside_by tb goal s h
true_by tb (capped goal cap r) h = capped_by tb goal cap r h

are_true : Table → List Saying → Bool
are_true tb [] = true
are_true tb (x ∷ xs) = both (is_true tb x) (are_true tb xs)

all_true : (tb : Table) (xs : List Saying) → are_true tb xs ≡ true → AllTrue tb xs
unfolding are_true
all_true tb [] h = tt
all_true tb (x ∷ xs) h = (true_by tb x (both_left (is_true tb x) _ h), all_true tb xs (both_right (is_true tb x) _ h))

fits : Entry → Reading → Bool
fits e r = both (eqb (answer_number r.verdict) e.number) (both (eqb r.place e.place) (are_true r.table e.says))

fits_by : (e : Entry) (r : Reading) → fits e r ≡ true → Fits e r
unfolding fits
fits_by e r h =
    let rest : both (eqb r.place e.place) (are_true r.table e.says) ≡ true = both_right (eqb (answer_number r.verdict) e.number) _ h in
    record {
      number = eqb-true _ _ (both_left (eqb (answer_number r.verdict) e.number) _ h);
      place = eqb-true _ _ (both_left (eqb r.place e.place) _ rest);
      says = all_true _ _ (both_right (eqb r.place e.place) _ rest);
    }

entries_hold : List Entry → Bool
entries_hold [] = true
entries_hold (e ∷ es) = both (fits e (read_book e.book)) (entries_hold es)

all_hold : (es : List Entry) → entries_hold es ≡ true → AllHold es
unfolding entries_hold
all_hold [] h = tt
all_hold (e ∷ es) h =
    let here = fits e (read_book e.book) in
    (fits_by e (read_book e.book) (both_left here _ h), all_hold es (both_right here _ h))

-- ---- the whole list

computed : entries_hold small_books ≡ true
unfolding entries_hold fits are_true is_true is_choice is_aside_test is_capped cap_gives exceeds each_reaching hitting hits hits_at precedes leads_in same_in small_books read_book step_at rule_at kind_rule edge_rule unknown_rule end_rule response_rule fault_rule test_rule first_of filled differs empty_table cell_at place_of well_formed label_right fresh differ row_right cell_right every count total joined single always bit has within share one agrees alike apart lowest kept_set collect.set_of collect.with_test some kept outdone outdone_by covers used follows_at follows has_at masks.masks_of masks.mask_row masks.counts masks.goal_mask masks.mask_of masks.differs masks.goal_pair
computed = refl

pub small_books_lem : AllHold small_books
small_books_lem = all_hold small_books computed
