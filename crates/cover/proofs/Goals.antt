-- What holds of every mask of a goal, and what holds of every goal pair that counts. Assumes nothing.
use mathlib.Core.Bool.{Bool, true, false}
use mathlib.Core.Path.{◌≡◌, refl, sym, ap, ◌∙◌}
use Prim.Native.Nat.{ℕ, ◌^◌, ◌<◌}
use native.Mathlib.Omega.{arith}
use borrow.Author.Tests.{ltb-true, lt-ltb, eqb-true, eq-eqb, ne_eqb}
use lib.Dec.{eqb, ltb}
use Rattle.folds.specs.Fold.{always}
use Rattle.folds.proofs.Bools.{clash, both_true, both_left, both_right}
use Rattle.folds.proofs.All.{AllOf, joined_all, joined_at, gather_all, gather_at}
use Rattle.folds.proofs.Gather.{always_true}
use Rattle.sets.specs.Sets.{bit, Shares}
use Rattle.sets.proofs.Bits.{bit_zero, some_bit}
use Rattle.sets.proofs.Collect.{set_lt, set_below, set_has, set_in}
use Rattle.table.specs.Table.{output_at, columns}
use Rattle.table.specs.declared.Goal.{Goal}
use Rattle.table.specs.declared.Goal.TheVariants.{Detect, Diagnose}
use Rattle.table.specs.declared.Table.{Table}
use Rattle.terms.specs.Columns.{agrees}
use Rattle.terms.specs.Terms.{TestOf, Separates, GoalPair, Counts, Reaches}
use Rattle.cover.specs.Masks.{Hits, goal_pair, differs, mask_of, goal_mask, counts, mask_row, masks_of}

-- ---- the mask of a pair

module _ (tb : Table) (a b : ℕ) where
  -- the tests that separate the columns a and b
  abbrev pub pair_mask : ℕ
  pair_mask = mask_of (output_at tb) tb.tests a b

  pub mask_lt : pair_mask < 2 ^ tb.tests
  unfolding mask_of
  mask_lt = set_lt (differs (output_at tb) a b) tb.tests

  pub mask_test : (t : ℕ) → bit pair_mask t ≡ 1 → TestOf tb t
  unfolding mask_of
  mask_test t e = set_below (differs (output_at tb) a b) tb.tests t e

  pub mask_separates : (t : ℕ) → bit pair_mask t ≡ 1 → Separates tb t a b
  unfolding mask_of differs agrees
  mask_separates t e q = clash false (sym (rw (eq-eqb (output_at tb t a) (output_at tb t b) q)) ∙ set_has (differs (output_at tb) a b) tb.tests t e) refl

  pub mask_in : (t : ℕ) → TestOf tb t → Separates tb t a b → bit pair_mask t ≡ 1
  unfolding mask_of differs agrees
  mask_in t l ne = set_in (differs (output_at tb) a b) tb.tests t l (rw (ne_eqb (output_at tb t a) (output_at tb t b) ne))

  counts_mask : Counts tb a b → pair_mask ≡ 0 → ⊥
  counts_mask (t, l, ne) z = omega (arith, mask_in t l ne, ap (λ (x : ℕ). bit x t) z, bit_zero t)

  mask_counts : (pair_mask ≡ 0 → ⊥) → Counts tb a b
  mask_counts ne = let w = some_bit pair_mask ne in (w.0, mask_test w.0 w.1, mask_separates w.0 w.1)

-- ---- the pairs of a goal

pub pair_of : (goal : Goal) (tb : Table) (a b : ℕ) → goal_pair goal a b ≡ true → b < columns tb → GoalPair goal tb a b
unfolding goal_pair
pair_of Detect tb a b h l = (eqb-true a 0 (both_right (ltb a b) (eqb a 0) h), ltb-true a b (both_left (ltb a b) (eqb a 0) h), l)
pair_of Diagnose tb a b h l = (ltb-true a b h, l)

pub of_pair : (goal : Goal) (tb : Table) (a b : ℕ) → GoalPair goal tb a b → goal_pair goal a b ≡ true
unfolding goal_pair
of_pair Detect tb a b (e, l, m) = both_true (ltb a b) (eqb a 0) (lt-ltb a b l) (eq-eqb a 0 e)
of_pair Diagnose tb a b (l, m) = lt-ltb a b l

pair_below : (goal : Goal) (tb : Table) (a b : ℕ) → GoalPair goal tb a b → (a < columns tb) × (b < columns tb)
pair_below Detect tb a b (e, l, m) = (omega arith, m)
pair_below Diagnose tb a b (l, m) = (omega arith, m)

module _ (tb : Table) (goal : Goal) where
  pair_mask_lem : (a b : ℕ) → goal_pair goal a b ≡ true → goal_mask (output_at tb) tb.tests goal a b ≡ pair_mask tb a b
  unfolding goal_mask
  pair_mask_lem a b h = rw h

  -- a pair whose mask is in the list is a goal pair that counts
  counted : (a b : ℕ) → counts (output_at tb) tb.tests goal a b ≡ true → (goal_pair goal a b ≡ true) × (pair_mask tb a b ≡ 0 → ⊥)
  unfolding counts goal_mask
  counted a b h = go (goal_pair goal a b) refl
    where
      go : (r : Bool) → goal_pair goal a b ≡ r → (goal_pair goal a b ≡ true) × (pair_mask tb a b ≡ 0 → ⊥)
      go true e = (e, λ z. clash false (sym (rw (e, eq-eqb (pair_mask tb a b) 0 z)) ∙ h) refl)
      go false e = clash false (sym (rw e) ∙ h) refl

  counting : (a b : ℕ) → goal_pair goal a b ≡ true → (pair_mask tb a b ≡ 0 → ⊥) → counts (output_at tb) tb.tests goal a b ≡ true
  unfolding counts
  counting a b h ne = rw (pair_mask_lem a b h, ne_eqb (pair_mask tb a b) 0 ne)

  module _ (Q : ℕ → Type 0) where
    -- what holds of the mask of every goal pair that counts holds of every mask
    pub masks_all : ((a b : ℕ) → GoalPair goal tb a b → Counts tb a b → Q (pair_mask tb a b)) → AllOf Q (masks_of tb goal)
    unfolding masks_of mask_row
    masks_all h = joined_all Q always (mask_row (output_at tb) tb.tests goal (columns tb)) (columns tb)
        (λ a l w. gather_all Q (counts (output_at tb) tb.tests goal a) (goal_mask (output_at tb) tb.tests goal a) (columns tb) (λ b m c.
        let w = counted a b c in
        rw (pair_mask_lem a b w.0) (h a b (pair_of goal tb a b w.0 m) (mask_counts tb a b w.1))))

    -- and the other way round
    pub masks_at : AllOf Q (masks_of tb goal) → (a b : ℕ) → GoalPair goal tb a b → Counts tb a b → Q (pair_mask tb a b)
    unfolding masks_of mask_row
    masks_at h a b g c =
        let p = of_pair goal tb a b g in
        let l = pair_below goal tb a b g in
        let row = joined_at Q always (mask_row (output_at tb) tb.tests goal (columns tb)) (columns tb) h a l.0 (always_true a) in
        rw (pair_mask_lem a b p) at (gather_at Q (counts (output_at tb) tb.tests goal a) (goal_mask (output_at tb) tb.tests goal a) (columns tb) row b l.1 (counting a b p (counts_mask tb a b c)))

-- ---- a set hits every mask exactly when it separates every goal pair that counts

module _ (tb : Table) (goal : Goal) (s : ℕ) where
  pub hits_reaches : Hits (masks_of tb goal) s → Reaches tb goal s
  hits_reaches h a b g c =
      let w = masks_at tb goal (λ m. Shares m s) h a b g c in
      (w.0, mask_test tb a b w.0 w.1, w.2, mask_separates tb a b w.0 w.1)

  pub reaches_hits : Reaches tb goal s → Hits (masks_of tb goal) s
  reaches_hits h = masks_all tb goal (λ m. Shares m s) (λ a b g c. let w = h a b g c in (w.0, mask_in tb a b w.0 w.1 w.3, w.2))
