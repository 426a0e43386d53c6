-- The first mask that is not hit, from a place on. Assumes nothing.
use mathlib.Core.Bool.{Bool, true}
use mathlib.Core.List.{List}
use mathlib.Core.Path.{◌≡◌, sym, ap, ◌∙◌}
use Prim.Native.Nat.{ℕ, ◌+◌, ◌-◌, ◌≤◌, ◌<◌}
use native.Mathlib.Omega.{arith}
use borrow.Author.Tests.{eq-eqb, eqb-true}
use lib.Bits.{bit_and}
use lib.Dec.{eqb}
use lib.ListN.{length, get_or, take, drop, length-drop}
use lib.Seq.{take-length}
use Rattle.std.proofs.lemmas.List.{get_or-drop}
use Rattle.folds.specs.Fold.{first}
use Rattle.folds.proofs.Bools.{clash}
use Rattle.folds.proofs.First.{first_below, first_has}
use Rattle.choice.specs.Search.{HitTo, UnhitAt}

-- the masks from a place on, as a slice
pub rest_is : (masks : List ℕ) (from : ℕ) → take (length masks - from) (drop from masks) ≡ drop from masks
rest_is masks from = rw (← length-drop from masks) (take-length (drop from masks))

module _ (masks : List ℕ) (from s : ℕ) where
  -- the mask at the place i from there is not hit
  abbrev pub missed : ℕ → Bool
  missed i = eqb (bit_and (get_or (drop from masks) i 0) s) 0

  -- those below the first of these are hit
  hit_to : (n : ℕ) → n ≤ first missed (length (drop from masks)) → HitTo masks from s (from + n)
  hit_to n h k l m z =
      let i : from + (k - from) ≡ k = omega arith in
      clash _ (eq-eqb _ _ (ap (λ (x : ℕ). bit_and x s) (get_or-drop from masks (k - from) 0 ∙ ap (λ (j : ℕ). get_or masks j 0) i) ∙ z))
      (first_below missed (length (drop from masks)) (k - from) (omega arith))

  pub none_unhit : from ≤ length masks → first missed (length (drop from masks)) ≡ length (drop from masks) → HitTo masks from s (length masks)
  none_unhit f e k l m z = hit_to (length (drop from masks)) (omega arith) k l (omega (arith, length-drop from masks)) z

  pub unhit_at : (i : ℕ) → (i < length (drop from masks)) × (i ≡ first missed (length (drop from masks))) → UnhitAt masks from s (from + i)
  unhit_at i (l, e) = record {
    low = omega arith;
    high = omega (arith, length-drop from masks);
    passed = hit_to i (omega arith);
    stopped =
        let h : missed i ≡ true = rw e (first_has missed (length (drop from masks)) (omega arith)) in
        ap (λ (x : ℕ). bit_and x s) (sym (get_or-drop from masks i 0)) ∙ eqb-true _ _ h;
  }
