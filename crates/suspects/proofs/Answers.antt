-- Laws of comparing: a column is a suspect exactly when its signature equals the observed outputs. Assumes nothing.
use mathlib.Core.Bool.{true}
use mathlib.Core.List.{List, [], ◌∷◌}
use mathlib.Core.Path.{◌≡◌, refl}
use Prim.Native.Nat.{ℕ}
use borrow.Author.Tests.{eq-eqb, eqb-true}
use lib.Dec.{eqb}
use Rattle.folds.proofs.Bools.{clash, both_true, both_left, both_right}
use Rattle.terms.specs.Columns.{outputs_under}
use Rattle.suspects.specs.Suspects.{equal, suspect}

-- ---- equal lists

equal_refl : (xs : List ℕ) → equal xs xs ≡ true
unfolding equal
equal_refl [] = refl
equal_refl (x ∷ xs) = both_true _ _ (eq-eqb x x refl) (equal_refl xs)

equal_same : (xs ys : List ℕ) → equal xs ys ≡ true → xs ≡ ys
unfolding equal
equal_same [] [] h = refl
equal_same [] (y ∷ ys) h = clash _ h refl
equal_same (x ∷ xs) [] h = clash _ h refl
equal_same (x ∷ xs) (y ∷ ys) h =
    let p = eqb-true x y (both_left _ _ h) in
    let q = equal_same xs ys (both_right (eqb x y) _ h) in
    cc

module _ (out : ℕ → ℕ → ℕ) (tests s : ℕ) (seen : List ℕ) where
  pub suspect_same : (c : ℕ) → suspect out tests s seen c ≡ true → outputs_under out tests s c ≡ seen
  unfolding suspect
  suspect_same c h = equal_same _ _ h

  pub same_suspect : (c : ℕ) → outputs_under out tests s c ≡ seen → suspect out tests s seen c ≡ true
  unfolding suspect
  same_suspect c e = rw e (equal_refl seen)
