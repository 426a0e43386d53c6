-- What the writers of items have done, from what each piece's writer did; and which column is of a class. Assumes nothing.
use mathlib.Core.Bool.{Bool, true}
use mathlib.Core.List.{List, [], ◌∷◌}
use mathlib.Core.Path.{◌≡◌, refl, sym, ap, ◌∙◌}
use Prim.Native.Nat.{ℕ, zero, suc, ◌-◌}
use native.Mathlib.Omega.{arith}
use borrow.Author.Tests.{eq-eqb, ne_eqb}
use lib.ListN.{get_or}
use Rattle.folds.specs.Fold.{count, joined}
use Rattle.items.specs.Items.{good_word, in_class, list_text, member_text, none_word, spaced}
use Rattle.text.proofs.Adds.{adds_then}
use Rattle.text.specs.Text.{Adds, decimal_of}

pub spaced_done : (n : ℕ) (b b' b'' : List ℕ) → Adds (32 ∷ []) b b' → Adds (decimal_of n) b' b'' → Adds (spaced n) b b''
unfolding spaced
spaced_done n b b' b'' v w = adds_then (32 ∷ []) (decimal_of n) b b' b'' v w

module _ (p : ℕ → Bool) (item : ℕ → List ℕ) (n k : ℕ) (b b' : List ℕ) (e : k ≡ count p n) where
  pub list_none : k ≡ 0 → Adds none_word b b' → Adds (list_text p item n) b b'
  unfolding list_text
  list_none z w = rw (eq-eqb (count p n) 0 (sym e ∙ z)) w

  pub list_some : (k ≡ 0 → ⊥) → Adds (joined p item n) b b' → Adds (list_text p item n) b b'
  unfolding list_text
  list_some ne w = rw (ne_eqb (count p n) 0 (λ z. ne (e ∙ z))) w

pub member_good : (lines stuck : List ℕ) (c : ℕ) (b b' : List ℕ) → c ≡ 0 → Adds (32 ∷ good_word) b b' → Adds (member_text lines stuck c) b b'
unfolding member_text
member_good lines stuck zero b b' e w = w
member_good lines stuck (suc f) b b' e w = absurd (omega arith)

pub member_fault : (lines stuck : List ℕ) (c line value : ℕ) (b b' b'' b''' : List ℕ) → (c ≡ 0 → ⊥) → line ≡ get_or lines (c - 1) 0 → value ≡ get_or stuck (c - 1) 0
    → Adds (spaced line) b b' → Adds (47 ∷ []) b' b'' → Adds (decimal_of value) b'' b''' → Adds (member_text lines stuck c) b b'''
unfolding member_text
member_fault lines stuck zero line value b b' b'' b''' ne el ev u v w = absurd (ne refl)
member_fault lines stuck (suc f) line value b b' b'' b''' ne el ev u v w =
    let f-is : suc f - 1 ≡ f = omega arith in
    rw (← ap (λ (x : ℕ). get_or lines x 0) f-is, ← ap (λ (x : ℕ). get_or stuck x 0) f-is, ← el, ← ev)
    (adds_then (spaced line) (47 ∷ decimal_of value) b b' b''' u (adds_then (47 ∷ []) (decimal_of value) b' b'' b''' v w))

-- a column whose number is k is of class k
pub class_is : (of : List ℕ) (k c : ℕ) → get_or of c 0 ≡ k → in_class of k c ≡ true
unfolding in_class
class_is of k c e = eq-eqb (get_or of c 0) k e
