-- The kept tests by the masks are the paper's, and so are the lone ones. Assumes nothing.
use mathlib.Core.Bool.{Bool, true, false, not}
use mathlib.Core.List.{List}
use mathlib.Core.Logic.{inl, inr, ⊎_elim}
use mathlib.Core.Path.{◌≡◌, refl, sym, ap, ◌∙◌}
use Prim.Native.Nat.{ℕ, zero, suc, ◌+◌, ◌-◌, ◌^◌, ◌≤◌, ◌<◌}
use native.Mathlib.Numerals.{add-one}
use native.Mathlib.Omega.{arith}
use borrow.Author.Tests.{eqb-true, eq-eqb, not-true, not-false}
use lib.Bits.{bit_and}
use lib.ListN.{length, get_or}
use Rattle.folds.proofs.Bools.{clash, both_left, both_right, both_cases, either_left, either_right, either_second}
use Rattle.folds.proofs.Every.{every_at, every_of}
use Rattle.folds.proofs.Some.{some_of, some_at}
use Rattle.folds.proofs.All.{AllOf}
use Rattle.sets.specs.Sets.{bit, has}
use Rattle.sets.specs.Collect.{set_of}
use Rattle.sets.proofs.Bits.{bit_cases, bit_out, has_yes, has_no, has_bit}
use Rattle.sets.proofs.Collect.{set_below, set_has, set_in, set_others}
use Rattle.sets.proofs.Shared.{only_in, only_one, only_of}
use Rattle.table.specs.declared.Goal.{Goal}
use Rattle.table.specs.declared.Goal.TheVariants.{Detect}
use Rattle.table.specs.declared.Refusal.{Refusal}
use Rattle.table.specs.declared.Refusal.TheVariants.{NotWellFormed}
use Rattle.table.specs.declared.Table.{Table}
use Rattle.table.specs.Answers.{number_of}
use Rattle.table.specs.Test.{well_formed}
use Rattle.table.specs.WellFormed.{WellFormed}
use Rattle.table.proofs.Tested.{tested}
use Rattle.terms.specs.Terms.{TestOf, GoalPair, Counts, Covers, Aside, Kept, Essential}
use Rattle.cover.specs.Masks.{masks_of}
use Rattle.cover.specs.Kept.{has_at, follows_at, follows, is_at, mask_is, used, covers, outdone, kept, lone}
use Rattle.cover.specs.Answer.{kept_set, lone_set, Exactly, AsideTest}
use Rattle.cover.proofs.Kept.{outdone_by_lem, outdone_at}
use Rattle.cover.proofs.Goals.{pair_mask, mask_lt, mask_separates, mask_in, masks_all, masks_at}

-- ---- a table that is refused

pub not_formed : (tb : Table) (why : Refusal) → (why ≡ NotWellFormed) × (well_formed tb ≡ false) → (WellFormed tb → ⊥) × (number_of why ≡ 20)
not_formed tb why h = (λ w. clash _ (tested tb w) h.1, ap number_of h.0)

-- ---- what the tests over masks say

module _ (masks : List ℕ) (t : ℕ) where
  used_not : used masks t ≡ true → AllOf (λ m. bit m t ≡ 0) masks → ⊥
  unfolding used has_at
  used_not h all =
      let w = some_at (has_at masks t) (length masks) h in
      omega (arith, all w.0 w.1, has_bit (get_or masks w.0 0) t w.2)

  unused : used masks t ≡ false → AllOf (λ m. bit m t ≡ 0) masks
  unfolding used has_at
  unused h k l = bit_out (get_or masks k 0) t (λ e. clash _ (some_of (has_at masks t) (length masks) k l (has_yes (get_or masks k 0) t e)) h)

  module _ (u : ℕ) where
    covers_all : covers masks u t ≡ true → AllOf (λ m. bit m t ≡ 1 → bit m u ≡ 1) masks
    unfolding covers follows_at follows
    covers_all h k l e =
        has_bit (get_or masks k 0) u
        (either_second (not (has (get_or masks k 0) t)) _ (every_at (follows_at masks u t) (length masks) k h l) (rw (has_yes (get_or masks k 0) t e)))

    all_covers : AllOf (λ m. bit m t ≡ 1 → bit m u ≡ 1) masks → covers masks u t ≡ true
    unfolding covers follows_at follows
    all_covers h = every_of (follows_at masks u t) (length masks) (λ k l. ⊎_elim
        (λ e. either_left (not (has (get_or masks k 0) t)) _ (rw (has_no (get_or masks k 0) t e)))
        (λ e. either_right (not (has (get_or masks k 0) t)) _ (has_yes (get_or masks k 0) u (h k l e)))
        (bit_cases (get_or masks k 0) t))

-- ---- the kept tests

module _ (tb : Table) (goal : Goal) (t : ℕ) where
  pub kept_stays : kept (masks_of tb goal) tb.tests t ≡ true → Aside tb goal t → ⊥
  unfolding kept
  kept_stays h (inl idle) =
      used_not (masks_of tb goal) t (both_right (not (outdone (masks_of tb goal) tb.tests t)) _ h)
      (masks_all tb goal (λ m. bit m t ≡ 0) (λ a b g c. bit_out (pair_mask tb a b) t (λ e. idle a b g (mask_separates tb a b t e))))
  kept_stays h (inr (u, l, (below, over))) = clash _ by (not-true _ (both_left _ _ h))
    where
      follow : (a b : ℕ) → GoalPair goal tb a b → bit (pair_mask tb a b) t ≡ 1 → bit (pair_mask tb a b) u ≡ 1
      follow a b g e = mask_in tb a b u l (over a b g (mask_separates tb a b t e))

      by : outdone (masks_of tb goal) tb.tests t ≡ true
      by = outdone_by_lem (masks_of tb goal) t u tb.tests l below (all_covers (masks_of tb goal) t u (masks_all tb goal (λ m. bit m t ≡ 1 → bit m u ≡ 1) (λ a b g c. follow a b g)))

  module _ (l : TestOf tb t) where
    covered : (u : ℕ) → covers (masks_of tb goal) u t ≡ true → Covers tb goal u t
    covered u h a b g ne =
        mask_separates tb a b u
        (masks_at tb goal (λ m. bit m t ≡ 1 → bit m u ≡ 1) (covers_all (masks_of tb goal) t u h) a b g (t, l, ne) (mask_in tb a b t l ne))

    pub stays_kept : kept (masks_of tb goal) tb.tests t ≡ false → Aside tb goal t
    unfolding kept
    stays_kept h = ⊎_elim
        (λ e. let w = outdone_at (masks_of tb goal) t tb.tests (not-false _ e) in inr (w.0, w.1, (w.2, covered w.0 w.3)))
        (λ e. inl (λ a b g ne. let z = masks_at tb goal (λ m. bit m t ≡ 0) (unused (masks_of tb goal) t e) a b g (t, l, ne) in omega (arith, mask_in tb a b t l ne)))
        (both_cases (not (outdone (masks_of tb goal) tb.tests t)) (used (masks_of tb goal) t) h)

module _ (tb : Table) (goal : Goal) (t : ℕ) where
  pub set_kept : bit (kept_set tb goal) t ≡ 1 → Kept tb goal t
  unfolding kept_set
  set_kept e = (set_below (kept (masks_of tb goal) tb.tests) tb.tests t e, kept_stays tb goal t (set_has (kept (masks_of tb goal) tb.tests) tb.tests t e))

  pub kept_set_lem : Kept tb goal t → bit (kept_set tb goal) t ≡ 1
  unfolding kept_set
  kept_set_lem (l, no-aside) = set_in (kept (masks_of tb goal) tb.tests) tb.tests t l (go (kept (masks_of tb goal) tb.tests t) refl)
    where
      go : (r : Bool) → kept (masks_of tb goal) tb.tests t ≡ r → r ≡ true
      go true e = refl
      go false e = absurd (no-aside (stays_kept tb goal t l e))

-- ---- the set-aside tests: all others

module _ (tb : Table) (goal : Goal) where
  pub kept_fits : kept_set tb goal + 1 ≤ 2 ^ tb.tests
  unfolding kept_set
  kept_fits = omega (arith, set_others (kept (masks_of tb goal) tb.tests) tb.tests)

  pub aside_exactly : Exactly (AsideTest tb goal) (2 ^ tb.tests - 1 - kept_set tb goal)
  unfolding kept_set
  aside_exactly =
      let p = kept (masks_of tb goal) tb.tests in
      let n = tb.tests in
      let e : 2 ^ n - 1 - set_of p n ≡ set_of (λ i. not (p i)) n = omega (arith, set_others p n) in
      rw e (record {
        inside = λ t b. let l = set_below (λ i. not (p i)) n t b in (l, stays_kept tb goal t l (not-true (p t) (set_has (λ i. not (p i)) n t b)));
        outside = λ t b w. go t b w.0 w.1 (p t) refl;
      })
    where
      go : (t : ℕ) → bit (set_of (λ i. not (kept (masks_of tb goal) tb.tests i)) tb.tests) t ≡ 0 → TestOf tb t → Aside tb goal t
          → (r : Bool) → kept (masks_of tb goal) tb.tests t ≡ r → ⊥
      go t b l a true e = kept_stays tb goal t e a
      go t b l a false e = omega (arith, set_in (λ i. not (kept (masks_of tb goal) tb.tests i)) tb.tests t l (rw e))

-- ---- the essential tests

module _ (tb : Table) (goal : Goal) where
  -- every mask of the goal detect is that of some fault
  of_fault : AllOf (λ m. (f : ℕ) × (f < tb.faults) × (m ≡ pair_mask tb 0 (f + 1))) (masks_of tb Detect)
  of_fault = masks_all tb Detect (λ m. (f : ℕ) × (f < tb.faults) × (m ≡ pair_mask tb 0 (f + 1))) go
    where
      go : (a b : ℕ) → GoalPair Detect tb a b → Counts tb a b → (f : ℕ) × (f < tb.faults) × (pair_mask tb a b ≡ pair_mask tb 0 (f + 1))
      go a zero (e, l, m) c = absurd (omega arith)
      go a (suc f) (e, l, m) c = (f, omega arith, rw (e, add-one))

  pub essential_exactly : Exactly (Essential tb goal) (lone_set tb (kept_set tb goal))
  unfolding lone_set lone is_at mask_is
  essential_exactly = record { inside = inside; outside = outside }
    where
      inside : (t : ℕ) → bit (set_of (lone (masks_of tb Detect) (kept_set tb goal)) tb.tests) t ≡ 1 → Essential tb goal t
      inside t b =
          let w = some_at (is_at (masks_of tb Detect) (kept_set tb goal) t) (length (masks_of tb Detect)) (set_has (lone (masks_of tb Detect) (kept_set tb goal)) tb.tests t b) in
          let f = of_fault w.0 w.1 in
          let e : bit_and (pair_mask tb 0 (f.0 + 1)) (kept_set tb goal) ≡ 2 ^ t = ap (λ (m : ℕ). bit_and m (kept_set tb goal)) (sym f.2) ∙ eqb-true _ _ w.2 in
          let h = only_in _ _ t e in (
            set_kept tb goal t h.1,
            (f.0, f.1, mask_separates tb 0 (f.0 + 1) t h.0, λ u k s. only_one _ _ t e u (mask_in tb 0 (f.0 + 1) u k.0 s) (kept_set_lem tb goal u k)),
          )

      outside : (t : ℕ) → bit (set_of (lone (masks_of tb Detect) (kept_set tb goal)) tb.tests) t ≡ 0 → Essential tb goal t → ⊥
      outside t b (k, (f, l, s, only)) =
          masks_at tb Detect (λ m. bit_and m (kept_set tb goal) ≡ 2 ^ t → ⊥) none 0 (f + 1) (refl, omega arith, omega arith) (t, k.0, s)
          (only_of _ _ t tb.tests (mask_lt tb 0 (f + 1)) (mask_in tb 0 (f + 1) t k.0 s) (kept_set_lem tb goal t k)
          (λ u m h. only u (set_kept tb goal u h) (mask_separates tb 0 (f + 1) u m)))
        where
          none : AllOf (λ m. bit_and m (kept_set tb goal) ≡ 2 ^ t → ⊥) (masks_of tb Detect)
          none i m e =
              omega (arith, set_in (lone (masks_of tb Detect) (kept_set tb goal)) tb.tests t k.0 (some_of (is_at (masks_of tb Detect) (kept_set tb goal) t) (length (masks_of tb Detect)) i m (eq-eqb _ _ e)))
