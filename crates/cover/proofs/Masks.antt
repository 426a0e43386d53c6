-- Laws of the masks of pairs. Assumes nothing.
use mathlib.Core.Bool.{true, false}
use mathlib.Core.List.{List, [], ◌∷◌, ◌++◌, append_assoc}
use mathlib.Core.Logic.{⊎_elim}
use mathlib.Core.Path.{◌≡◌, refl, sym, ap, ◌∙◌}
use Prim.Native.Nat.{ℕ, ◌+◌, ◌-◌, ◌≤◌, ◌<◌}
use native.Mathlib.Omega.{arith}
use borrow.Author.Tests.{le-ltb, eq-eqb, ne_eqb}
use lib.ListN.{length, length-append}
use Rattle.folds.specs.Fold.{gather, single}
use Rattle.folds.proofs.Bools.{clash}
use Rattle.folds.proofs.Below.{lt_or_ge}
use Rattle.folds.proofs.Count.{count_above}
use Rattle.folds.proofs.Gather.{gather_length}
use Rattle.folds.proofs.Joined.{joined_yes, joined_no}
use Rattle.table.specs.declared.Goal.{Goal}
use Rattle.table.specs.declared.Goal.TheVariants.{Detect, Diagnose}
use Rattle.cover.specs.Masks.{goal_pair, goal_mask, counts, mask_row}

-- ---- the masks of one row

pair_not : (goal : Goal) (a b : ℕ) → b ≤ a → goal_pair goal a b ≡ false
unfolding goal_pair
pair_not Detect a b h = rw (le-ltb a b h)
pair_not Diagnose a b h = le-ltb a b h

module _ (out : ℕ → ℕ → ℕ) (tests : ℕ) (goal : Goal) (a b m : ℕ) (e : m ≡ goal_mask out tests goal a b) where
  counts_yes : (m ≡ 0 → ⊥) → counts out tests goal a b ≡ true
  unfolding counts
  counts_yes ne = rw (← e, ne_eqb m 0 ne)

  counts_no : m ≡ 0 → counts out tests goal a b ≡ false
  unfolding counts
  counts_no z = rw (← e, eq-eqb m 0 z)

module _ (out : ℕ → ℕ → ℕ) (tests : ℕ) (goal : Goal) (a : ℕ) where
  counts_above : (b : ℕ) → counts out tests goal a b ≡ true → a < b
  unfolding counts goal_mask
  counts_above b h = ⊎_elim (λ l. l) (λ l. clash true refl (sym h ∙ rw (pair_not goal a b l))) (lt_or_ge a b)

  pub row_few : (columns : ℕ) → length (mask_row out tests goal columns a) ≤ columns - (a + 1)
  unfolding mask_row
  row_few columns =
      rw (gather_length (counts out tests goal a) (goal_mask out tests goal a) columns) (count_above (counts out tests goal a) a counts_above columns)

  -- ---- a loop that appends them

  abbrev pub row_to : ℕ → List ℕ
  row_to b = gather (counts out tests goal a) (goal_mask out tests goal a) b

  module _ (b m : ℕ) (e : m ≡ goal_mask out tests goal a b) (old xs : List ℕ) (so-far : xs ≡ old ++ row_to b) where
    pub row_more : (m ≡ 0 → ⊥) → (ys : List ℕ) → ys ≡ xs ++ (m ∷ []) → ys ≡ old ++ row_to (b + 1)
    unfolding single
    row_more ne ys h = rw (h, so-far, e, joined_yes (counts out tests goal a) (single (goal_mask out tests goal a)) b (counts_yes out tests goal a b m e ne), append_assoc)

    pub row_same : m ≡ 0 → xs ≡ old ++ row_to (b + 1)
    row_same z = rw (joined_no (counts out tests goal a) (single (goal_mask out tests goal a)) b (counts_no out tests goal a b m e z)) so-far

    -- there is room for one mask more
    pub row_room : (columns : ℕ) → (m ≡ 0 → ⊥) → b < columns → length old + (columns - (a + 1)) ≤ 1830 → length xs < 1830
    row_room columns ne l fit =
        let yes = counts_yes out tests goal a b m e ne in
        omega (
          arith,
          simp length-append at (ap length so-far),
          gather_length (counts out tests goal a) (goal_mask out tests goal a) b,
          count_above (counts out tests goal a) a counts_above b,
          counts_above b yes,
        )
