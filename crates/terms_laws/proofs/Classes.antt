-- Laws of classes: which columns are alike, their lowest columns, their numbers. Assumes nothing.
use mathlib.Core.Bool.{Bool, true, false, not}
use mathlib.Core.List.{List}
use mathlib.Core.Logic.{⊎_elim}
use mathlib.Core.Path.{◌≡◌, refl, sym, ap, ◌∙◌}
use Prim.Native.Nat.{ℕ, ◌+◌, ◌≤◌, ◌<◌}
use native.Mathlib.Nat.{le_antisymm}
use native.Mathlib.Omega.{arith}
use borrow.Author.Tests.{eq-eqb, eqb-true, eqb-false}
use lib.ListN.{get_or}
use Rattle.folds.specs.Fold.{count, Tells}
use Rattle.folds.proofs.Bools.{clash, tells_yes, tells_by, told_true}
use Rattle.folds.proofs.Below.{below_cases, lt_or_ge}
use Rattle.folds.proofs.Every.{every_none, every_at, every_of, every_fails, every_lacks}
use Rattle.folds.proofs.Count.{count_none, count_le, count_less, count_reaches}
use Rattle.folds.proofs.First.{first_found, first_none, first_below, first_has, first_le}
use Rattle.folds.proofs.Gather.{gather_get, gather_agree}
use Rattle.sets.specs.Sets.{has}
use Rattle.table.specs.Table.{output_at, columns}
use Rattle.table.specs.WellFormed.{WellFormed}
use Rattle.table.specs.declared.Table.{Table}
use Rattle.terms.specs.Columns.{agrees, output_of, alike, apart, lowest, lowest_of, class_number, outputs_under}
use Rattle.terms.specs.Terms.{Alike, Undetectable, class_count, class_of}

module _ (out : ℕ → ℕ → ℕ) (tests : ℕ) where
  -- ---- columns that no test separates

  pub alike_at : (a b t : ℕ) → alike out tests a b ≡ true → t < tests → out t a ≡ out t b
  unfolding alike agrees
  alike_at a b t h w = eqb-true _ _ (every_at (agrees out a b) tests t h w)

  pub alike_of : (a b : ℕ) → ((t : ℕ) → t < tests → out t a ≡ out t b) → alike out tests a b ≡ true
  unfolding alike agrees
  alike_of a b h = every_of (agrees out a b) tests (λ t w. eq-eqb _ _ (h t w))

  -- where two columns are not alike some test separates them
  pub unlike_at : (a b : ℕ) → alike out tests a b ≡ false → (t : ℕ) × (t < tests) × (out t a ≡ out t b → ⊥)
  unfolding alike agrees
  unlike_at a b h = let w = every_lacks (agrees out a b) tests h in (w.0, w.1, eqb-false _ _ w.2)

  pub alike_refl : (a : ℕ) → alike out tests a a ≡ true
  alike_refl a = alike_of a a (λ t w. refl)

  pub alike_sym : (a b : ℕ) → alike out tests a b ≡ true → alike out tests b a ≡ true
  alike_sym a b h = alike_of b a (λ t w. sym (alike_at a b t h w))

  pub alike_trans : (a b c : ℕ) → alike out tests a b ≡ true → alike out tests b c ≡ true → alike out tests a c ≡ true
  alike_trans a b c h k = alike_of a c (λ t w. alike_at a b t h w ∙ alike_at b c t k w)

  -- what is unlike one of two alike columns is unlike the other
  unlike_trans : (a b c : ℕ) → alike out tests a b ≡ true → alike out tests b c ≡ false → alike out tests a c ≡ false
  unlike_trans a b c h k = go (alike out tests a c) refl
    where
      go : (r : Bool) → alike out tests a c ≡ r → r ≡ false
      go true e = clash _ (alike_trans b a c (alike_sym a b h) e) k
      go false e = refl

  -- ---- signatures

  pub signature_get : (s c t : ℕ) → t < tests → has s t ≡ true → get_or (outputs_under out tests s c) (count (has s) t) 0 ≡ out t c
  unfolding output_of
  signature_get s c t w h = gather_get (has s) (output_of out c) tests t w h

  -- two columns have one signature exactly when they agree in every test of the set
  pub signature_of : (s a b : ℕ) → ((t : ℕ) → t < tests → has s t ≡ true → out t a ≡ out t b) → outputs_under out tests s a ≡ outputs_under out tests s b
  unfolding output_of
  signature_of s a b h = gather_agree (has s) (output_of out a) (output_of out b) tests h

  pub signature_at : (s a b t : ℕ) → outputs_under out tests s a ≡ outputs_under out tests s b → t < tests → has s t ≡ true → out t a ≡ out t b
  signature_at s a b t e w h = sym (signature_get s a t w h) ∙ ap (λ (x : List ℕ). get_or x (count (has s) t) 0) e ∙ signature_get s b t w h

  pub alike_signature : (s a b : ℕ) → alike out tests a b ≡ true → outputs_under out tests s a ≡ outputs_under out tests s b
  alike_signature s a b h = signature_of s a b (λ t w q. alike_at a b t h w)

  -- ---- the lowest column of a class

  pub lowest_le : (c : ℕ) → lowest_of out tests c ≤ c
  unfolding lowest_of
  lowest_le c = first_le (alike out tests c) c

  below_lowest : (c x : ℕ) → x < lowest_of out tests c → alike out tests c x ≡ false
  unfolding lowest_of
  below_lowest c x w = first_below (alike out tests c) c x w

  earlier_alike : (c : ℕ) → lowest_of out tests c < c → alike out tests c (lowest_of out tests c) ≡ true
  unfolding lowest_of
  earlier_alike c w = first_has (alike out tests c) c w

  pub lowest_alike : (c : ℕ) → alike out tests c (lowest_of out tests c) ≡ true
  lowest_alike c =
      ⊎_elim (λ (w : lowest_of out tests c < c). earlier_alike c w) (λ (e : lowest_of out tests c ≡ c). rw e (alike_refl c))
      (below_cases (lowest_of out tests c) c (omega (arith, lowest_le c)))

  -- no other column is the lowest that no test separates from c
  lowest_is : (c h : ℕ) → h ≤ c → alike out tests c h ≡ true → ((x : ℕ) → x < h → alike out tests c x ≡ false) → lowest_of out tests c ≡ h
  unfolding lowest_of
  lowest_is c h w e n =
      ⊎_elim (λ (v : h < c). first_found (alike out tests c) c h v n e) (λ (v : h ≡ c). rw v (first_none (alike out tests c) c (λ x u. n x (omega arith))))
      (below_cases h c (omega arith))

  not_above : (a b : ℕ) → alike out tests a b ≡ true → lowest_of out tests b ≤ a
  not_above a b e = ⊎_elim (λ w. clash _ (alike_sym a b e) (below_lowest b a w)) (λ w. w) (lt_or_ge a (lowest_of out tests b))

  -- alike columns have one lowest column
  pub alike_lowest : (a b : ℕ) → alike out tests a b ≡ true → lowest_of out tests a ≡ lowest_of out tests b
  alike_lowest a b e =
      lowest_is a (lowest_of out tests b) (not_above a b e) (alike_trans a b (lowest_of out tests b) e (lowest_alike b))
      (λ x w. unlike_trans a b x e (below_lowest b x w))

  -- `lowest` says whether a column is its class's lowest one
  pub is_lowest : (c : ℕ) → c ≤ lowest_of out tests c → lowest out tests c ≡ true
  unfolding lowest apart
  is_lowest c w = every_of (apart out tests c) c (λ b v. ap not (below_lowest c b (omega arith)))

  pub not_lowest : (c : ℕ) → lowest_of out tests c < c → lowest out tests c ≡ false
  unfolding lowest apart
  not_lowest c w = every_fails (apart out tests c) c (lowest_of out tests c) w (ap not (earlier_alike c w))

  pub lowest_self : (c : ℕ) → lowest out tests c ≡ true → lowest_of out tests c ≡ c
  lowest_self c h =
      ⊎_elim (λ (w : lowest_of out tests c < c). clash _ h (not_lowest c w)) (λ (w : c ≤ lowest_of out tests c). le_antisymm (lowest_le c) w)
      (lt_or_ge (lowest_of out tests c) c)

  lowest_twice : (c : ℕ) → lowest_of out tests (lowest_of out tests c) ≡ lowest_of out tests c
  lowest_twice c = sym (alike_lowest c (lowest_of out tests c) (lowest_alike c))

  pub lowest_of_lem : (c : ℕ) → lowest out tests (lowest_of out tests c) ≡ true
  lowest_of_lem c = is_lowest (lowest_of out tests c) (omega (arith, lowest_twice c))

  -- column 0 is the lowest of its class
  pub lowest_zero : lowest out tests 0 ≡ true
  unfolding lowest
  lowest_zero = every_none (apart out tests 0)

  -- ---- class numbers

  pub class_lowest : (c : ℕ) → class_number out tests c ≡ count (lowest out tests) (lowest_of out tests c)
  unfolding class_number
  class_lowest c = refl

  -- the lowest column of a class has its number
  pub class_of_lowest : (c : ℕ) → lowest out tests c ≡ true → class_number out tests c ≡ count (lowest out tests) c
  class_of_lowest c h = class_lowest c ∙ ap (count (lowest out tests)) (lowest_self c h)

  -- columns that no test separates have one number
  pub class_same : (a b : ℕ) → alike out tests a b ≡ true → class_number out tests a ≡ class_number out tests b
  class_same a b e = class_lowest a ∙ ap (count (lowest out tests)) (alike_lowest a b e) ∙ sym (class_lowest b)

  -- the numbers rise with the lowest columns
  pub class_rises : (a b : ℕ) → lowest_of out tests a < lowest_of out tests b → class_number out tests a < class_number out tests b
  class_rises a b w =
      omega (arith, class_lowest a, class_lowest b, count_less (lowest out tests) (lowest_of out tests a) (lowest_of out tests b) w (lowest_of_lem a))

  one_lowest : (a b : ℕ) → class_number out tests a ≡ class_number out tests b → lowest_of out tests a ≡ lowest_of out tests b
  one_lowest a b e =
      ⊎_elim (λ w. absurd (omega (arith, class_rises a b w)))
      (λ w. ⊎_elim (λ v. absurd (omega (arith, class_rises b a v))) (λ v. le_antisymm v w) (lt_or_ge (lowest_of out tests b) (lowest_of out tests a)))
      (lt_or_ge (lowest_of out tests a) (lowest_of out tests b))

  -- columns of one number are separated by no test
  pub class_alike : (a b : ℕ) → class_number out tests a ≡ class_number out tests b → alike out tests a b ≡ true
  class_alike a b e =
      let l : alike out tests b (lowest_of out tests a) ≡ true = rw (one_lowest a b e) (lowest_alike b) in
      alike_trans a (lowest_of out tests a) b (lowest_alike a) (alike_sym b (lowest_of out tests a) l)

  -- each column's number is below the number of classes,
  pub class_below : (n c : ℕ) → c < n → class_number out tests c < count (lowest out tests) n
  class_below n c w =
      omega (arith, class_lowest c, count_less (lowest out tests) (lowest_of out tests c) n (omega (arith, lowest_le c)) (lowest_of_lem c))

  -- and each number below it is some column's: there are no gaps
  pub class_reaches : (n k : ℕ) → k < count (lowest out tests) n → (c : ℕ) × (c < n) × (class_number out tests c ≡ k)
  class_reaches n k h = let x = count_reaches (lowest out tests) n k h in (x.0, x.1, class_of_lowest x.0 x.2 ∙ x.3)

  -- class 0 holds column 0
  pub class_zero : class_number out tests 0 ≡ 0
  class_zero = class_of_lowest 0 lowest_zero ∙ count_none (lowest out tests)

-- ---- a table's classes

-- `alike` says whether no test of the table separates two columns
pub alike_tells : (tb : Table) (a b : ℕ) → Tells (alike (output_at tb) tb.tests a b) (Alike tb a b)
alike_tells tb a b = tells_by (alike (output_at tb) tb.tests a b)
    (λ h t w n. n (alike_at (output_at tb) tb.tests a b t h w))
    (λ h k. let x = unlike_at (output_at tb) tb.tests a b h in k x.0 x.1 x.2)

-- two columns have one class number exactly when no test separates them
pub one_class : (tb : Table) (a b : ℕ) → class_of tb a ≡ class_of tb b → Alike tb a b
one_class tb a b e = tells_yes _ (alike_tells tb a b) (class_alike (output_at tb) tb.tests a b e)

pub alike_class : (tb : Table) (a b : ℕ) → Alike tb a b → class_of tb a ≡ class_of tb b
alike_class tb a b h = class_same (output_at tb) tb.tests a b (told_true _ (alike_tells tb a b) h)

-- class 0 holds column 0 and exactly the undetectable faults
pub undetectable_zero : (tb : Table) (f : ℕ) → Undetectable tb f → class_of tb (f + 1) ≡ 0
undetectable_zero tb f h = sym (alike_class tb 0 (f + 1) h) ∙ class_zero (output_at tb) tb.tests

pub zero_undetectable : (tb : Table) (f : ℕ) → class_of tb (f + 1) ≡ 0 → Undetectable tb f
zero_undetectable tb f e = one_class tb 0 (f + 1) (class_zero (output_at tb) tb.tests ∙ sym e)

-- a class for each column at most
pub few_classes : (tb : Table) → WellFormed tb → class_count tb ≤ 61
few_classes tb w = omega (arith, w.faults_fit, count_le (lowest (output_at tb) tb.tests) (columns tb))
