-- The root of the search: what is found there among the kept tests is the choice. Assumes nothing.
use mathlib.Core.List.{List}
use mathlib.Core.Logic.{inr, ⊎_elim}
use mathlib.Core.Path.{◌≡◌, refl, sym, ◌∙◌}
use Prim.Native.Nat.{ℕ, ◌^◌, ◌≤◌, ◌<◌}
use native.Mathlib.Nat.{mod-one}
use native.Mathlib.Omega.{arith}
use borrow.Author.Tests.{le-leb, lt-leb}
use Rattle.std.specs.Prelude.{Option, Some, None}
use Rattle.folds.proofs.Below.{lt_or_ge}
use lib.ListN.{length, drop}
use lib.Seq.{take-append_seam}
use Rattle.std.specs.List.{refill}
use Rattle.sets.specs.Collect.{set_of}
use Rattle.sets.specs.Sets.{Within, one}
use Rattle.sets.proofs.Bits.{below_of_bits}
use Rattle.sets.proofs.Weight.{weight_empty, size_most}
use Rattle.table.specs.WellFormed.{WellFormed}
use Rattle.table.specs.declared.Goal.{Goal}
use Rattle.table.specs.declared.Table.{Table}
use Rattle.terms.specs.Terms.{Reaches, Kept}
use Rattle.terms_laws.proofs.Choice.{choice_exists, choice_fewest, strike_out}
use Rattle.cover.specs.Answer.{kept_set}
use Rattle.cover.specs.Kept.{kept}
use Rattle.cover.specs.Masks.{masks_of}
use Rattle.cover.proofs.Goals.{hits_reaches, reaches_hits}
use Rattle.cover.proofs.Aside.{set_kept, kept_set_lem}
use Rattle.choice.specs.declared.search.Weighed.{Weighed}
use Rattle.choice.specs.Answer.{Sought, within_cap, ChoiceIs}
use Rattle.choice.specs.Order.{Reordered}
use Rattle.choice.specs.Search.{Node, Open, Best}

-- nothing is decided
pub node_root : (w : ℕ → ℕ) (masks : List ℕ) → Node w masks 0 0 0 0
node_root w masks = record { depth = omega arith; decided = omega arith; weighed = sym (weight_empty w); start = omega arith; hit = λ k l. absurd (omega arith) }

module _ (tb : Table) (formed : WellFormed tb) (goal : Goal) where
  -- the masks of the goal, in any order
  module _ (masks : List ℕ) (order : Reordered (masks_of tb goal) masks) where
    -- every set of kept tests that reaches the goal is open
    open_root : (s : ℕ) → Within (Kept tb goal) s → Reaches tb goal s → Open one masks (kept_set tb goal) 0 0 25 s
    open_root s within reaches =
        let below : s < 2 ^ 24 = below_of_bits 24 s (λ t e. omega (arith, (within t e).0, formed.tests_fit)) in
        record {
          below = below;
          agrees = mod-one s;
          keeps = λ t l e. kept_set_lem tb goal t (within t e);
          hits = order.hits s (reaches_hits tb goal s reaches);
          light = omega (arith, size_most s below);
        }

    sought : (r : Option Weighed) → Best one masks (kept_set tb goal) 0 0 25 r → Sought tb goal r
    sought (Some f) b = (
      (strike_out tb formed goal f.set).1 (record {
        within = λ t e. set_kept tb goal t (b.0.keeps t (omega arith) e);
        reaches = hits_reaches tb goal f.set (order.hit f.set b.0.hits);
        first = λ s' h r. b.2 s' (open_root s' h r);
      }),
      b.1,
    )
    sought None b =
        let c = choice_exists tb goal in
        let k = (strike_out tb formed goal c.0).0 c.1 in
        b c.0 (open_root c.0 k.within k.reaches)

  -- the same for the masks, put in another order where they stand, and the kept tests as the code has them
  pub sought_by : (xs ys zs : List ℕ) → xs ≡ masks_of tb goal → Reordered xs ys → zs ≡ refill (length xs) xs ys
      → (keep : ℕ) → keep ≡ set_of (kept xs tb.tests) tb.tests → (r : Option Weighed) → Best one zs keep 0 0 25 r → Sought tb goal r
  unfolding kept_set
  sought_by xs ys zs e o z keep k r b =
      let same : zs ≡ ys = z ∙ rw (← o.long) (take-append_seam ys (drop (length ys) xs)) in
      sought ys (rw e at o) r (rw (k, e, same) at b)

  -- ---- the cap

  pub capped : (cap : ℕ) → cap ≤ 24 → (r : Option Weighed) → Sought tb goal r → ChoiceIs tb goal cap (within_cap r cap)
  capped cap l (Some f) (c, e) = ⊎_elim
      (λ (m : cap < f.weight). rw (lt-leb f.weight cap m) (inr (inr (refl, formed, l, λ s' h r. omega (arith, choice_fewest tb goal f.set s' c h r)))))
      (λ (m : f.weight ≤ cap). rw (le-leb f.weight cap m) (formed, l, c, omega arith))
      (lt_or_ge cap f.weight)
  capped cap l None none = absurd none
