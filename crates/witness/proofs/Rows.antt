-- The rows of the sheet: what the code's tests say, and how many bytes each row has. Assumes nothing.
use mathlib.Core.Bool.{Bool, true, false}
use mathlib.Core.Logic.{⊎_elim}
use mathlib.Core.Path.{◌≡◌, sym, ap, subst, ◌∙◌}
use Prim.Native.Nat.{ℕ, zero, suc, ◌+◌, ◌-◌, ◌≤◌, ◌<◌}
use native.Mathlib.Numerals.{add-one}
use native.Mathlib.Omega.{arith}
use borrow.Author.Tests.{lt-ltb, le-ltb}
use lib.ListN.{length}
use Rattle.std.specs.declared.option.Option.{Option}
use Rattle.std.specs.declared.option.Option.TheVariants.{None, Some}
use Rattle.folds.specs.Fold.{count, first}
use Rattle.folds.specs.Fold.{Finds}
use Rattle.folds.proofs.Below.{below_cases}
use Rattle.folds.proofs.Count.{count_none, count_more, count_yes, count_no, count_less}
use Rattle.folds.proofs.Gather.{gather_length}
use Rattle.sets.specs.Sets.{has}
use Rattle.sets.specs.Collect.{set_of}
use Rattle.sets.proofs.Collect.{set_tells}
use Rattle.terms.specs.Columns.{lowest}
use Rattle.witness.specs.Witness.{separates, above_in, lowest_test, witness_of, above, witnesses}

module _ (out : ℕ → ℕ → ℕ) (tests : ℕ) where
  -- ---- the answers of `witness`

  pub witness_found : (s a b i : ℕ) → i ≡ lowest_test out tests s a b → i < tests → i ≡ witness_of out tests s a b
  unfolding witness_of
  witness_found s a b i e w = rw (← e, lt-ltb i tests w)

  pub witness_none : (s a b : ℕ) → tests ≡ lowest_test out tests s a b → 255 ≡ witness_of out tests s a b
  unfolding witness_of
  witness_none s a b e = rw (← e, le-ltb tests tests (omega arith))

  module _ (s a b n t : ℕ) (tests_are : n ≡ tests) where
    pub some_witness : (o : Option ℕ) → Finds (separates out s a b) n o → o ≡ Some t → (t < n) × (t ≡ witness_of out tests s a b)
    some_witness o f e =
        let g : (t < n) × (t ≡ first (separates out s a b) n) = subst (Finds (separates out s a b) n) e f in
        (g.0, witness_found s a b t (g.1 ∙ ap (first (separates out s a b)) tests_are) (omega (arith, g.0)))

    pub none_witness : (o : Option ℕ) → Finds (separates out s a b) n o → o ≡ None → 255 ≡ witness_of out tests s a b
    none_witness o f e =
        let g : first (separates out s a b) n ≡ n = subst (Finds (separates out s a b) n) e f in
        witness_none s a b (sym tests_are ∙ sym g ∙ ap (first (separates out s a b)) tests_are)

  -- ---- the set of the lowest columns answers for them

  pub low_in : (n lows i : ℕ) (r : Bool) → lows ≡ set_of (lowest out tests) n → i < n → r ≡ has lows i → r ≡ lowest out tests i
  low_in n lows i r e w h = h ∙ rw e (set_tells (lowest out tests) n i w)

  above_in_lem : (n lows a i : ℕ) → lows ≡ set_of (lowest out tests) n → i < n → above_in lows a i ≡ above out tests a i
  unfolding above_in above
  above_in_lem n lows a i e w = rw (e, set_tells (lowest out tests) n i w)

  -- what answers the one test answers the other
  pub above_computed : (P : ℕ → Bool → Type 0) (n m lows a : ℕ) → m ≡ n → lows ≡ set_of (lowest out tests) n
      → ((i : ℕ) (b : Bool) → i < m → P i b → b ≡ above_in lows a i) → (i : ℕ) (b : Bool) → i < m → P i b → b ≡ above out tests a i
  above_computed P n m lows a u e h i b w k = h i b w k ∙ above_in_lem n lows a i e (omega arith)

  -- ---- how many classes are above that of column a

  above_yes : (a i : ℕ) → a < i → above out tests a i ≡ lowest out tests i
  unfolding above
  above_yes a i w = rw (lt-ltb a i w)

  above_no : (a i : ℕ) → i ≤ a → above out tests a i ≡ false
  unfolding above
  above_no a i w = rw (le-ltb a i w)

  above_low : (a i : ℕ) → i ≤ a + 1 → count (above out tests a) i ≡ 0
  above_low a zero w = count_none (above out tests a)
  above_low a (suc i) w =
      let q : count (above out tests a) (i + 1) ≡ count (above out tests a) (suc i) = ap (count (above out tests a)) (add-one i) in
      omega (arith, above_low a i (omega arith), count_no (above out tests a) i (above_no a i (omega arith)))

  pub above_count : (a n : ℕ) → a < n → count (above out tests a) n + count (lowest out tests) (a + 1) ≡ count (lowest out tests) n
  above_count a zero w = absurd (omega arith)
  above_count a (suc n) w =
      let p : count (above out tests a) (n + 1) ≡ count (above out tests a) (suc n) = ap (count (above out tests a)) (add-one n) in
      let q : count (lowest out tests) (n + 1) ≡ count (lowest out tests) (suc n) = ap (count (lowest out tests)) (add-one n) in
      ⊎_elim
      (λ v. omega (arith, above_count a n v, rw (above_yes a n v) at (count_more (above out tests a) n), count_more (lowest out tests) n))
      (λ (e : a ≡ n). let r : a + 1 ≡ suc n = omega arith in omega (arith, above_low a (suc n) (omega arith), ap (count (lowest out tests)) r))
      (below_cases a n w)

  module _ (s n : ℕ) where
    -- with the classes up to its own a row makes up all of them
    pub row_length : (a : ℕ) → a < n → lowest out tests a ≡ true
        → length (witnesses out tests s n a) + (count (lowest out tests) a + 1) ≡ count (lowest out tests) n
    row_length a w h =
        omega (arith, gather_length (above out tests a) (witness_of out tests s a) n, above_count a n w, count_yes (lowest out tests) a h)

  -- ---- a loop over the columns in which `left` classes are left

  pub left_start : (n k : ℕ) → k ≡ count (lowest out tests) n → k + count (lowest out tests) 0 ≡ count (lowest out tests) n
  left_start n k e = omega (arith, count_none (lowest out tests))

  module _ (n a left : ℕ) (e : left + count (lowest out tests) a ≡ count (lowest out tests) n) (r : Bool) (q : r ≡ lowest out tests a) where
    pub left_no : (left' : ℕ) → r ≡ false → left' ≡ left → left' + count (lowest out tests) (a + 1) ≡ count (lowest out tests) n
    left_no left' h g = omega (arith, count_no (lowest out tests) a (sym q ∙ h))

    module _ (w : a < n) (h : r ≡ true) where
      pub left_some : 1 ≤ left
      left_some = omega (arith, count_less (lowest out tests) a n w (sym q ∙ h))

      pub left_above : left - 1 ≡ count (above out tests a) n
      left_above = omega (arith, above_count a n w, count_yes (lowest out tests) a (sym q ∙ h), left_some)

      pub left_size : (s : ℕ) → left - 1 ≡ length (witnesses out tests s n a)
      left_size s = left_above ∙ sym (gather_length (above out tests a) (witness_of out tests s a) n)

      pub left_yes : (left' : ℕ) → left' ≡ left - 1 → left' + count (lowest out tests) (a + 1) ≡ count (lowest out tests) n
      left_yes left' g = omega (arith, count_yes (lowest out tests) a (sym q ∙ h), left_some)
