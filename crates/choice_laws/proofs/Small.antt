-- The choice of a table with few tests, by one test that antt computes over all subsets of them. Assumes nothing.
use mathlib.Core.Bool.{Bool, true, not}
use mathlib.Core.List.{List}
use mathlib.Core.Logic.{inl, inr, ⊎_elim}
use mathlib.Core.Path.{◌≡◌}
use Prim.Native.Nat.{ℕ, ◌^◌}
use borrow.Author.Tests.{eqb-true, eqb-false, ne_eqb, ltb-true, not-true}
use lib.Bits.{bit_and}
use lib.Dec.{eqb, ltb}
use lib.ListN.{length, get_or}
use Rattle.folds.specs.Fold.{both, either, every, some}
use Rattle.folds.proofs.Bools.{both_left, both_right, either_cases, either_second}
use Rattle.folds.proofs.Every.{every_at, every_of}
use Rattle.folds.proofs.Some.{some_at}
use Rattle.sets.specs.Sets.{bit, has, within, size, one, Within, Before, Precedes}
use Rattle.sets.proofs.Bits.{has_bit, lacks_bit, within_tells, below_of_bits}
use Rattle.sets.proofs.Shared.{shares, shares_not}
use Rattle.table.specs.declared.Goal.{Goal}
use Rattle.table.specs.declared.Table.{Table}
use Rattle.terms.specs.Choice.{Choice}
use Rattle.terms.specs.Terms.{TestOf, Reaches}
use Rattle.cover.specs.Masks.{Hits, masks_of}
use Rattle.cover.proofs.Goals.{hits_reaches, reaches_hits}

-- ---- the order of sets

module _ (s s' : ℕ) where
  unfoldable pub same_in : ℕ → Bool
  same_in t = eqb (bit s t) (bit s' t)

  -- t is the lowest test in which the two differ, and s holds it
  unfoldable pub leads_in : ℕ → Bool
  leads_in t = both (has s t) (both (not (has s' t)) (every same_in t))

  -- s has fewer tests; or as many, and is the same set or an earlier one
  unfoldable pub precedes : Bool
  precedes = either (ltb (size s) (size s')) (both (eqb (size s) (size s')) (either (eqb s s') (some leads_in 24)))

  leads : (t : ℕ) → leads_in t ≡ true → Before s s'
  unfolding leads_in same_in
  leads t h =
      let rest : both (not (has s' t)) (every same_in t) ≡ true = both_right (has s t) _ h in (
        t,
        has_bit s t (both_left (has s t) _ h),
        lacks_bit s' t (not-true _ (both_left (not (has s' t)) _ rest)),
        λ u l. eqb-true _ _ (every_at same_in t u (both_right (not (has s' t)) _ rest) l),
      )

  precedes_by : precedes ≡ true → Precedes one s s'
  unfolding precedes
  precedes_by h = ⊎_elim
      (λ e. inl (ltb-true _ _ e))
      (λ e. inr (
        eqb-true _ _ (both_left (eqb (size s) (size s')) _ e),
        ⊎_elim
            (λ same. inl (eqb-true s s' same))
            (λ d. let w = some_at leads_in 24 d in inr (leads w.0 w.2))
            (either_cases (eqb s s') _ (both_right (eqb (size s) (size s')) _ e)),
      ))
      (either_cases (ltb (size s) (size s')) _ h)

-- ---- sets that hit every mask

module _ (masks : List ℕ) where
  -- the mask at k shares a test with s
  unfoldable pub hits_at : ℕ → ℕ → Bool
  hits_at s k = not (eqb (bit_and (get_or masks k 0) s) 0)

  unfoldable pub hits : ℕ → Bool
  hits s = every (hits_at s) (length masks)

  hits_all : (s : ℕ) → hits s ≡ true → Hits masks s
  unfolding hits hits_at
  hits_all s h k l = shares (get_or masks k 0) s (eqb-false _ _ (not-true _ (every_at (hits_at s) (length masks) k h l)))

  all_hits : (s : ℕ) → Hits masks s → hits s ≡ true
  unfolding hits hits_at
  all_hits s h = every_of (hits_at s) (length masks) (λ k l. rw (ne_eqb (bit_and (get_or masks k 0) s) 0 (λ e. shares_not (get_or masks k 0) s e (h k l))))

  -- s does not hit every mask, or has p
  unfoldable pub hitting : (ℕ → Bool) → ℕ → Bool
  hitting p s = either (not (hits s)) (p s)

-- ---- the tests of a table

module _ (tb : Table) (goal : Goal) where
  -- every set of the table's tests that reaches the goal has p
  unfoldable pub each_reaching : (ℕ → Bool) → Bool
  each_reaching p = every (hitting (masks_of tb goal) p) (2 ^ tb.tests)

  pub each_reaching_lem : (p : ℕ → Bool) → each_reaching p ≡ true → (s : ℕ) → Within (TestOf tb) s → Reaches tb goal s → p s ≡ true
  unfolding each_reaching hitting
  each_reaching_lem p h s w r =
      either_second (not (hits (masks_of tb goal) s)) (p s)
      (every_at (hitting (masks_of tb goal) p) (2 ^ tb.tests) s h (below_of_bits tb.tests s w))
      (rw (all_hits (masks_of tb goal) s (reaches_hits tb goal s r)))

  unfoldable pub is_choice : ℕ → Bool
  is_choice s = both (within s tb.tests) (both (hits (masks_of tb goal) s) (each_reaching (precedes s)))

  pub choice_by : (s : ℕ) → is_choice s ≡ true → Choice tb goal s
  unfolding is_choice
  choice_by s h =
      let rest : both (hits (masks_of tb goal) s) (each_reaching (precedes s)) ≡ true = both_right (within s tb.tests) _ h in
      record {
        within = within_tells s tb.tests (both_left (within s tb.tests) _ h);
        reaches = hits_reaches tb goal s (hits_all (masks_of tb goal) s (both_left (hits (masks_of tb goal) s) _ rest));
        first = λ s' w r. precedes_by s s' (each_reaching_lem (precedes s) (both_right (hits (masks_of tb goal) s) _ rest) s' w r);
      }
