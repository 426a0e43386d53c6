-- What the answers of the two calls say of each other. Assumes nothing.
use mathlib.Core.Bool.{true}
use mathlib.Core.Path.{◌≡◌, sym, ◌∙◌}
use Prim.Native.Nat.{ℕ, ◌+◌, ◌<◌}
use native.Mathlib.Omega.{arith}
use lib.ListN.{get_or}
use Rattle.std.specs.Prelude.{Result}
use Rattle.folds.specs.Fold.{pick}
use Rattle.folds.proofs.Bools.{pick_ap, tells_yes, told_true}
use Rattle.folds.proofs.Gather.{listed_at}
use Rattle.sets.specs.Sets.{has}
use Rattle.table.specs.Answers.{answer_number, answer_value}
use Rattle.table.specs.Table.{output_at, columns}
use Rattle.table.specs.Test.{well_formed}
use Rattle.table.specs.declared.Classes.{Classes}
use Rattle.table.specs.declared.Refusal.{Refusal}
use Rattle.table.specs.declared.Table.{Table}
use Rattle.terms.specs.Columns.{class_number}
use Rattle.terms.specs.Terms.{class_of, class_count}
use Rattle.terms_laws.proofs.Classes.{undetectable_zero, zero_undetectable}
use Rattle.classes.specs.Classes.{unnumbered, numbers_of, classes_of, answer_classes}
use Rattle.classes.specs.Undetectable.{UndetectableIn}

-- 20 where the table is not well formed, and 0
pub classify_number : (tb : Table) (given : Result Classes Refusal) → given ≡ classes_of tb → answer_number given ≡ pick (well_formed tb) 0 20
unfolding classes_of
classify_number tb given g = rw g (pick_ap {A = Result Classes Refusal} answer_number (well_formed tb) _ _)

module _ (tb : Table) (w : well_formed tb ≡ true) (given : Result Classes Refusal) (g : given ≡ classes_of tb) where
  -- `classify` gives each column its class number,
  pub class_given : (c : ℕ) → c < columns tb → get_or (answer_classes given).of c 0 ≡ class_of tb c
  unfolding classes_of numbers_of
  class_given c l = rw (g, w) (listed_at (class_number (output_at tb) tb.tests) (columns tb) c unnumbered l)

  -- and the number of classes
  pub count_given : (answer_classes given).count ≡ class_count tb
  unfolding classes_of
  count_given = rw (g, w)

  -- a fault is in the set of `undetectable` exactly when the class of its column is 0
  module _ (r : Result ℕ Refusal) (u : UndetectableIn tb r) (f : ℕ) where
    pub held_zero : has (answer_value r) f ≡ true → get_or (answer_classes given).of (f + 1) 0 ≡ 0
    held_zero h =
        let x = tells_yes _ (u.holds w f) h in
        class_given (f + 1) (omega (arith, x.0)) ∙ undetectable_zero tb f x.1

    pub zero_held : f < tb.faults → get_or (answer_classes given).of (f + 1) 0 ≡ 0 → has (answer_value r) f ≡ true
    zero_held l e = told_true _ (u.holds w f) (l, zero_undetectable tb f (sym (class_given (f + 1) (omega arith)) ∙ e))
