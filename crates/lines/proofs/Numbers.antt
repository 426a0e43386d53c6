-- The class numbers that `classify` gives are each some column's. Assumes nothing.
use mathlib.Core.Bool.{Bool, true}
use mathlib.Core.Logic.{⊎_elim}
use mathlib.Core.Path.{◌≡◌, refl, ◌∙◌}
use Prim.Native.Nat.{ℕ, ◌≤◌, ◌<◌}
use native.Mathlib.Omega.{arith}
use Rattle.classes.proofs.Meaning.{class_given, count_given}
use Rattle.classes.specs.Classes.{answer_classes, classes_in, classes_of}
use Rattle.folds.proofs.Below.{lt_or_ge}
use Rattle.folds.proofs.Bools.{clash}
use Rattle.folds.proofs.First.{first_below}
use Rattle.folds.specs.Fold.{first}
use Rattle.items.proofs.Pieces.{class_is}
use Rattle.items.specs.Items.{in_class}
use Rattle.lines.specs.Text.{Numbered}
use Rattle.table.specs.Test.{well_formed}
use Rattle.table.specs.Table.{columns, output_at}
use Rattle.table.specs.declared.Classes.{Classes}
use Rattle.table.specs.declared.Table.{Table}
use Rattle.terms_laws.proofs.Classes.{class_reaches}

first_at : (p : ℕ → Bool) (n c : ℕ) → c < n → p c ≡ true → first p n < n
first_at p n c l h = ⊎_elim (λ (w : c < first p n). clash (p c) h (first_below p n c w)) (λ (w : first p n ≤ c). omega arith) (lt_or_ge c (first p n))

-- where `classify` takes the table, its answer is the classes
pub classes_are : (tb : Table) (r : Classes) → well_formed tb ≡ true → r ≡ classes_in tb → answer_classes (classes_of tb) ≡ r
unfolding classes_of
classes_are tb r w e = rw (w, ← e)

pub numbered : (tb : Table) (r : Classes) → well_formed tb ≡ true → r ≡ classes_in tb → Numbered tb r.of r.count
numbered tb r w e = rw (← classes_are tb r w e) (record {
  has = λ k l.
      let x = class_reaches (output_at tb) tb.tests (columns tb) k (omega (arith, count_given tb w (classes_of tb) refl)) in
      first_at (in_class (answer_classes (classes_of tb)).of k) (columns tb) x.0 x.1 (class_is (answer_classes (classes_of tb)).of k x.0 (class_given tb w (classes_of tb) refl x.0 x.1 ∙ x.2));
})
