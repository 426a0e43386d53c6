-- The choice: there is exactly one, no set-aside test is in it, and striking those out leaves it. Assumes nothing.
use mathlib.Core.Logic.{◌⊎◌, inl, inr, ⊎_elim}
use mathlib.Core.Path.{◌≡◌, sym, ap, ◌∙◌, subst}
use Prim.Native.Nat.{ℕ, zero, suc, ◌^◌, ◌≤◌, ◌<◌}
use native.Mathlib.Nat.{le_refl}
use native.Mathlib.Omega.{arith}
use Rattle.folds.proofs.Below.{lt_or_ge, eq_or_ne}
use Rattle.folds.proofs.Decide.{Decided, LeastBelow, least_exists}
use Rattle.sets.specs.Sets.{bit, Within, weight, size, one, Before, Precedes}
use Rattle.sets.proofs.Bits.{bit_cases, bit_below, bit_zero, below_of_bits, full, full_lt, full_bit}
use Rattle.sets.proofs.Flip.{flip, flip_out, flip_in, flip_other}
use Rattle.sets.proofs.Weight.{one_is, one_positive, weight_out, weight_in}
use Rattle.sets.proofs.Order.{precedes_weight, precedes_antisym, precedes_trans, precedes_total, empty_first}
use Rattle.table.specs.WellFormed.{WellFormed}
use Rattle.table.specs.declared.Goal.{Goal}
use Rattle.table.specs.declared.Table.{Table}
use Rattle.terms.specs.Choice.{test_weight, IsChoice, Choice}
use Rattle.terms.specs.Terms.{TestOf, Separates, GoalPair, Counts, Reaches, Covers, Outdoes, Aside, Kept}
use Rattle.terms_laws.proofs.Decided.{decided_reaches, decided_aside}

-- ---- there is exactly one

pub choice_one : (tb : Table) (goal : Goal) (allowed : ℕ → Type 0) (s s' : ℕ) → IsChoice tb goal allowed s → IsChoice tb goal allowed s' → s ≡ s'
choice_one tb goal allowed s s' c c' =
    precedes_antisym (test_weight tb) s s' (c.first s' c'.within c'.reaches) (c'.first s c.within c.reaches)

-- all tests together separate whatever some test separates
full_reaches : (tb : Table) (goal : Goal) → Reaches tb goal (full tb.tests)
full_reaches tb goal a b p (t, l, sep) = (t, l, full_bit tb.tests t l, sep)

pub choice_exists : (tb : Table) (goal : Goal) → (s : ℕ) × Choice tb goal s
choice_exists tb goal = go (least_exists (Reaches tb goal) (Precedes w) (decided_reaches tb goal) (2 ^ tb.tests) (precedes_total w tb.tests) (precedes_trans w)
    (2 ^ tb.tests) (full tb.tests) (le_refl _) (full_lt tb.tests) (full_reaches tb goal))
  where
    w : ℕ → ℕ
    w = test_weight tb

    go : ((s : ℕ) × LeastBelow (Reaches tb goal) (Precedes w) (2 ^ tb.tests) s) → (s : ℕ) × Choice tb goal s
    go (s, l) = (
      s,
      record {
        within = λ t e. bit_below tb.tests s t l.below e;
        reaches = l.has;
        first = λ s' h r. l.least s' (below_of_bits tb.tests s' h) r;
      },
    )

-- ---- what the promise says of the number of tests and of the order

pub choice_fewest : (tb : Table) (goal : Goal) (s s' : ℕ) → Choice tb goal s → Within (TestOf tb) s' → Reaches tb goal s' → size s ≤ size s'
choice_fewest tb goal s s' c h r = precedes_weight one s s' (c.first s' h r)

pub choice_first : (tb : Table) (goal : Goal) (s s' : ℕ) → Choice tb goal s → Within (TestOf tb) s' → Reaches tb goal s' → size s ≡ size s' → (s ≡ s') ⊎ Before s s'
choice_first tb goal s s' c h r e = go (c.first s' h r)
  where
    go : Precedes one s s' → (s ≡ s') ⊎ Before s s'
    go (inl l) = absurd (omega arith)
    go (inr (n, o)) = o

-- ---- what setting aside leans on: how one test outdoes another

weight_positive : (tb : Table) (t : ℕ) → 0 < test_weight tb t
weight_positive tb t = one_positive t

-- a number that falls from each test to one that outdoes it
rank : Table → ℕ → ℕ
rank tb t = t

outdoes_falls : (tb : Table) (goal : Goal) (u t : ℕ) → Outdoes tb goal u t → rank tb u < rank tb t
unfolding rank
outdoes_falls tb goal u t o = o.0

outdoes_other : (tb : Table) (goal : Goal) (u t : ℕ) → Outdoes tb goal u t → u ≡ t → ⊥
outdoes_other tb goal u t o e = omega (arith, o.0)

-- with u in the place of t a set comes first
outdoes_first : (tb : Table) (goal : Goal) (u t s : ℕ) → Outdoes tb goal u t → u < 24 → t < 24 → bit s t ≡ 1 → bit s u ≡ 0
    → Precedes (test_weight tb) s (flip (flip s t) u) → ⊥
outdoes_first tb goal u t s o l m held out =
    go (flip (flip s t) u)
    (omega (arith, weight_in one (flip s t) u l without, weight_out one s t m held, one_is u, one_is t))
    (flip_other (flip s t) u t (λ e. outdoes_other tb goal u t o (sym e)) ∙ flip_out s t held)
    (flip_in (flip s t) u without)
    (λ i k. flip_other (flip s t) u i (λ e. omega arith) ∙ flip_other s t i (λ e. omega (arith, o.0)))
  where
    without : bit (flip s t) u ≡ 0
    without = flip_other s t u (outdoes_other tb goal u t o) ∙ out

    go : (s' : ℕ) → weight one s' ≡ weight one s → bit s' t ≡ 0 → bit s' u ≡ 1 → ((i : ℕ) → i < u → bit s' i ≡ bit s i) → Precedes one s s' → ⊥
    go s' n out-t in-u low (inl k) = omega arith
    go s' n out-t in-u low (inr (k, inl e)) = omega (arith, ap (λ (x : ℕ). bit x t) e)
    go s' n out-t in-u low (inr (k, inr (i, a, b, agree))) =
        ⊎_elim (λ (g : i < u). omega (arith, low i g))
        (λ (g : u ≤ i). ⊎_elim (λ (h : u < i). omega (arith, agree u h)) (λ (h : i ≤ u). let e : i ≡ u = omega arith in omega (arith, ap (bit s) e)) (lt_or_ge u i))
        (lt_or_ge i u)

-- ---- a set-aside test is in no choice

module _ (tb : Table) (formed : WellFormed tb) (goal : Goal) (s t : ℕ) (c : Choice tb goal s) (held : bit s t ≡ 1) where
  test : t < tb.tests
  test = c.within t held

  below_24 : (u : ℕ) → u < tb.tests → u < 24
  below_24 u l = omega (arith, formed.tests_fit)

  out_within : Within (TestOf tb) (flip s t)
  out_within u e = ⊎_elim (λ q. absurd (omega (arith, flip_out s t held, ap (bit (flip s t)) q))) (λ ne. c.within u (sym (flip_other s t u ne) ∙ e)) (eq_or_ne u t)

  -- without t it does not reach the goal
  out_misses : Reaches tb goal (flip s t) → ⊥
  out_misses r =
      omega (
        arith,
        precedes_weight (test_weight tb) s (flip s t) (c.first (flip s t) out_within r),
        weight_out (test_weight tb) s t (below_24 t test) held,
        weight_positive tb t,
      )

  -- nor with a test in its place that outdoes it
  swap_misses : (u : ℕ) → u < tb.tests → Outdoes tb goal u t → bit s u ≡ 0 → Reaches tb goal (flip (flip s t) u) → ⊥
  swap_misses u l o out r =
      outdoes_first tb goal u t s o (below_24 u l) (below_24 t test) held out (c.first (flip (flip s t) u) swap_within r)
    where
      swap_within : Within (TestOf tb) (flip (flip s t) u)
      swap_within v e = ⊎_elim (λ q. subst (λ (x : ℕ). x < tb.tests) (sym q) l) (λ ne. out_within v (sym (flip_other (flip s t) u v ne) ∙ e)) (eq_or_ne v u)

  strike : Aside tb goal t → ⊥
  strike (inl idle) = out_misses (λ a b p n.
      let w = c.reaches a b p n in
      (w.0, w.1, flip_other s t w.0 (λ e. idle a b p (subst (λ (x : ℕ). Separates tb x a b) e w.3)) ∙ w.2, w.3))
  strike (inr (u, l, o)) = ⊎_elim
      (λ out. swap_misses u l o out (λ a b p n. let w = c.reaches a b p n in ⊎_elim
      (λ e. (u, l, flip_in (flip s t) u (flip_other s t u (outdoes_other tb goal u t o) ∙ out), o.1 a b p (subst (λ (x : ℕ). Separates tb x a b) e w.3)))
      (λ ne. (w.0, w.1, flip_other (flip s t) u w.0 (λ e. omega (arith, out, w.2, ap (bit s) e)) ∙ flip_other s t w.0 ne ∙ w.2, w.3))
      (eq_or_ne w.0 t)))
      (λ «in». out_misses (λ a b p n. let w = c.reaches a b p n in ⊎_elim
      (λ e. (u, l, flip_other s t u (outdoes_other tb goal u t o) ∙ «in», o.1 a b p (subst (λ (x : ℕ). Separates tb x a b) e w.3)))
      (λ ne. (w.0, w.1, flip_other s t w.0 ne ∙ w.2, w.3))
      (eq_or_ne w.0 t)))
      (bit_cases s u)

pub aside_out : (tb : Table) → WellFormed tb → (goal : Goal) (s t : ℕ) → Choice tb goal s → Aside tb goal t → bit s t ≡ 0
aside_out tb formed goal s t c a = ⊎_elim (λ e. e) (λ e. absurd (strike tb formed goal s t c e a)) (bit_cases s t)

-- ---- striking out the set-aside tests

kept_only : (tb : Table) → WellFormed tb → (goal : Goal) (s : ℕ) → Choice tb goal s → IsChoice tb goal (Kept tb goal) s
kept_only tb formed goal s c = record {
  within = λ t e. (c.within t e, λ a. omega (arith, aside_out tb formed goal s t c a));
  reaches = c.reaches;
  first = λ s' h r. c.first s' (λ t e. (h t e).0) r;
}

-- the choice is the choice among the kept tests, and the other way round
pub strike_out : (tb : Table) → WellFormed tb → (goal : Goal) (s : ℕ) → (Choice tb goal s → IsChoice tb goal (Kept tb goal) s) × (IsChoice tb goal (Kept tb goal) s → Choice tb goal s)
strike_out tb formed goal s = (
  kept_only tb formed goal s,
  λ c.
      let all = choice_exists tb goal in
      subst (Choice tb goal) (choice_one tb goal (Kept tb goal) all.0 s (kept_only tb formed goal all.0 all.1) c) all.1,
)

-- ---- striking out loses no goal pair

module _ (tb : Table) (goal : Goal) where
  -- a goal pair that test t separates
  abbrev Sees : ℕ → Type 0
  Sees t = (a b : ℕ) × GoalPair goal tb a b × Separates tb t a b

  kept_from : (n t : ℕ) → rank tb t < n → t < tb.tests → Sees t → (v : ℕ) × Kept tb goal v × Covers tb goal v t
  kept_from zero t l h w = absurd (omega arith)
  kept_from (suc n) t l h w = go (decided_aside tb goal t) (λ u m k x. kept_from n u m k x)
    where
      go : Decided (Aside tb goal t) → ((u : ℕ) → rank tb u < n → u < tb.tests → Sees u → (v : ℕ) × Kept tb goal v × Covers tb goal v u) → (v : ℕ) × Kept tb goal v × Covers tb goal v t
      go (inr kept) more = (t, (h, kept), λ x y q s. s)
      go (inl (inl idle)) more = absurd (idle w.0 w.1 w.2 w.3)
      go (inl (inr (u, m, o))) more =
          let v = more u (omega (arith, outdoes_falls tb goal u t o)) m (w.0, w.1, w.2, o.1 w.0 w.1 w.2 w.3) in
          (v.0, v.1, λ x y q s. v.2 x y q (o.1 x y q s))

  -- for a test that separates some goal pair there is a kept test that separates every goal pair that it does
  pub kept_covers : (t : ℕ) → t < tb.tests → Sees t → (v : ℕ) × Kept tb goal v × Covers tb goal v t
  kept_covers t h w = kept_from (suc (rank tb t)) t (omega arith) h w

-- ---- with no goal pair that counts the choice is the empty set

pub choice_empty : (tb : Table) → WellFormed tb → (goal : Goal) → ((a b : ℕ) → GoalPair goal tb a b → Counts tb a b → ⊥) → Choice tb goal 0
choice_empty tb formed goal none = record {
  within = λ t e. absurd (omega (arith, bit_zero t));
  reaches = λ a b p n. absurd (none a b p n);
  first = λ s' h r. empty_first (test_weight tb) (weight_positive tb) s' (below_of_bits 24 s' (λ t e. omega (arith, h t e, formed.tests_fit)));
}
