-- What holds at a node of the search, from what holds at the nodes below it, for any weight of each test. Assumes nothing.
use mathlib.Core.List.{List}
use mathlib.Core.Logic.{inl, inr, ⊎_elim}
use mathlib.Core.Path.{◌≡◌, sym, ap, ◌∙◌, subst}
use Prim.Native.Nat.{ℕ, suc, ◌+◌, ◌-◌, ◌%◌, ◌^◌, ◌≤◌, ◌<◌}
use native.Mathlib.Nat.{mod-eq_of_lt, lt_of_lt_of_le, eq-or-lt_of_le, mod-lt}
use native.Mathlib.Numerals.{add-one}
use native.Mathlib.Omega.{arith}
use lib.Bits.{bit_and}
use lib.ListN.{length, get_or}
use lib.Pow.{pow_mono, pow_pos}
use Rattle.std.specs.Prelude.{Option, Some, None, MatchOption}
use Rattle.folds.proofs.Below.{lt_or_ge}
use Rattle.sets.specs.Sets.{bit, weight, Before, Shares}
use Rattle.sets.proofs.Bits.{bit_cases, mod_in, mod_out, bit_low, bit_high, bit_below, top_lt, top_below}
use Rattle.sets.proofs.Order.{precedes_weight}
use Rattle.sets.proofs.Weight.{weight_top}
use Rattle.sets.proofs.Shared.{shares, shares_not}
use Rattle.choice.specs.declared.search.Weighed.{Weighed}
use Rattle.choice.specs.Search.{HitTo, UnhitAt, Node, Open, NeedsMore, Best, limit_after, or_else}
use Rattle.choice.proofs.Weights.{agreed_weight, agreed_same}

-- two sets that agree below t, with t in the first alone
before_at : (s s' t : ℕ) → s % 2 ^ t ≡ s' % 2 ^ t → bit s t ≡ 1 → bit s' t ≡ 0 → Before s s'
before_at s s' t e a b = (t, a, b, λ j l. sym (bit_low s t j l) ∙ ap (λ (x : ℕ). bit x j) e ∙ bit_low s' t j l)

module _ (w : ℕ → ℕ) (masks : List ℕ) (keep t chosen : ℕ) where
  open_limit : (limit limit' s : ℕ) → Open w masks keep t chosen limit s → weight w s < limit' → Open w masks keep t chosen limit' s
  open_limit limit limit' s o l = record { below = o.below; agrees = o.agrees; keeps = o.keeps; hits = o.hits; light = l }

  -- what is best below a limit is best below a higher one: an open set that is not below the first limit is heavier
  pub best_raised : (limit limit' : ℕ) (f : Weighed) → limit ≤ limit' → Best w masks keep t chosen limit (Some f) → Best w masks keep t chosen limit' (Some f)
  best_raised limit limit' f l b = (
    open_limit limit limit' f.set b.0 (omega (arith, b.0.light)),
    b.1,
    λ s' o. ⊎_elim (λ h. b.2 s' (open_limit limit' limit s' o h)) (λ h. inl (omega (arith, b.0.light))) (lt_or_ge (weight w s') limit),
  )

  open_in_down : (limit s : ℕ) → bit s t ≡ 1 → Open w masks keep t chosen limit s → Open w masks keep (t + 1) (chosen + 2 ^ t) limit s
  open_in_down limit s e o = record {
    below = o.below;
    agrees = rw add-one (omega (arith, mod_in s t e, o.agrees));
    keeps = λ i l. o.keeps i (omega arith);
    hits = o.hits;
    light = o.light;
  }

  open_out_down : (limit s : ℕ) → bit s t ≡ 0 → Open w masks keep t chosen limit s → Open w masks keep (t + 1) chosen limit s
  open_out_down limit s e o = record {
    below = o.below;
    agrees = rw add-one (mod_out s t e ∙ o.agrees);
    keeps = λ i l. o.keeps i (omega arith);
    hits = o.hits;
    light = o.light;
  }

  module _ (low : chosen < 2 ^ t) where
    in_agrees : (s : ℕ) → s % 2 ^ (t + 1) ≡ chosen + 2 ^ t → (bit s t ≡ 1) × (s % 2 ^ t ≡ chosen)
    in_agrees s h =
        let g : s % 2 ^ suc t ≡ chosen + 2 ^ t = rw add-one at h in
        ⊎_elim (λ e. absurd (omega (arith, mod_out s t e, mod-lt s (pow_pos t)))) (λ e. (e, omega (arith, mod_in s t e))) (bit_cases s t)

    out_agrees : (s : ℕ) → s % 2 ^ (t + 1) ≡ chosen → (bit s t ≡ 0) × (s % 2 ^ t ≡ chosen)
    out_agrees s h =
        let g : s % 2 ^ suc t ≡ chosen = rw add-one at h in
        ⊎_elim (λ e. (e, omega (arith, mod_out s t e))) (λ e. absurd (omega (arith, mod_in s t e))) (bit_cases s t)

    open_in_up : (limit s : ℕ) → bit keep t ≡ 1 → Open w masks keep (t + 1) (chosen + 2 ^ t) limit s → Open w masks keep t chosen limit s
    open_in_up limit s k o = record {
      below = o.below;
      agrees = (in_agrees s o.agrees).1;
      keeps = λ i l b. ⊎_elim (λ e. subst (λ (j : ℕ). bit keep j ≡ 1) e k) (λ h. o.keeps i (omega arith) b) (eq-or-lt_of_le l);
      hits = o.hits;
      light = o.light;
    }

    open_out_up : (limit s : ℕ) → Open w masks keep (t + 1) chosen limit s → Open w masks keep t chosen limit s
    open_out_up limit s o = record {
      below = o.below;
      agrees = (out_agrees s o.agrees).1;
      keeps = λ i l b.
          ⊎_elim (λ e. absurd (omega (arith, ap (λ (j : ℕ). bit s j) e, (out_agrees s o.agrees).0, b)))
          (λ h. o.keeps i (omega arith) b) (eq-or-lt_of_le l);
      hits = o.hits;
      light = o.light;
    }

    -- test t is not kept: it is out
    pub best_skip : (limit : ℕ) (r : Option Weighed) → bit keep t ≡ 0 → Best w masks keep (t + 1) chosen limit r → Best w masks keep t chosen limit r
    best_skip limit (Some f) k b = (
      open_out_up limit f.set b.0,
      b.1,
      λ s' o. b.2 s' (open_out_down limit s' (⊎_elim (λ e. e) (λ e. absurd (omega (arith, o.keeps t (omega arith) e))) (bit_cases s' t)) o),
    )
    best_skip limit None k b = λ s' o.
        b s' (open_out_down limit s' (⊎_elim (λ e. e) (λ e. absurd (omega (arith, o.keeps t (omega arith) e))) (bit_cases s' t)) o)

    -- test t is kept: `first` is the best with t in, `later` the best with t out and lighter than `first`
    best_join : (limit : ℕ) (first later : Option Weighed) → bit keep t ≡ 1 → Best w masks keep (t + 1) (chosen + 2 ^ t) limit first
        → Best w masks keep (t + 1) chosen (limit_after first limit) later → Best w masks keep t chosen limit (or_else later first)
    best_join limit (Some f) (Some g) k a b = (
      open_limit f.weight limit g.set (open_out_up f.weight g.set b.0) (omega (arith, b.0.light, a.1, a.0.light)),
      b.1,
      λ s' o. ⊎_elim
          (λ e. ⊎_elim (λ l. b.2 s' (open_out_down f.weight s' e (open_limit limit f.weight s' o l))) (λ l. inl (omega (arith, b.0.light))) (lt_or_ge (weight w s') f.weight))
          (λ e. inl (omega (arith, b.0.light, a.1, precedes_weight w f.set s' (a.2 s' (open_in_down limit s' e o))))) (bit_cases s' t),
    )
    best_join limit (Some f) None k a b = (
      open_in_up limit f.set k a.0,
      a.1,
      λ s' o. ⊎_elim
          (λ e. ⊎_elim (λ l. absurd (b s' (open_out_down f.weight s' e (open_limit limit f.weight s' o l))))
          (λ l. ⊎_elim
          (λ q. inr (sym a.1 ∙ q, inr (before_at f.set s' t ((in_agrees f.set a.0.agrees).1 ∙ sym o.agrees) (in_agrees f.set a.0.agrees).0 e)))
          (λ g. inl (omega (arith, a.1))) (eq-or-lt_of_le l)) (lt_or_ge (weight w s') f.weight))
          (λ e. a.2 s' (open_in_down limit s' e o)) (bit_cases s' t),
    )
    best_join limit None (Some g) k a b = (
      open_out_up limit g.set b.0,
      b.1,
      λ s' o. ⊎_elim (λ e. b.2 s' (open_out_down limit s' e o)) (λ e. absurd (a s' (open_in_down limit s' e o))) (bit_cases s' t),
    )
    best_join limit None None k a b = λ s' o.
        ⊎_elim (λ e. b s' (open_out_down limit s' e o)) (λ e. a s' (open_in_down limit s' e o)) (bit_cases s' t)

    -- the same for the answer as the code has it
    pub best_joined : (limit : ℕ) (first later r : Option Weighed) → r ≡ or_else later first → bit keep t ≡ 1 → Best w masks keep (t + 1) (chosen + 2 ^ t) limit first
        → Best w masks keep (t + 1) chosen (limit_after first limit) later → Best w masks keep t chosen limit r
    best_joined limit first later r e k a b = rw e (best_join limit first later k a b)

pub limit_after_le : (w : ℕ → ℕ) (masks : List ℕ) (keep t chosen limit : ℕ) (r : Option Weighed) → Best w masks keep t chosen limit r → limit_after r limit ≤ limit
limit_after_le w masks keep t chosen limit (Some f) b = omega (arith, b.1, b.0.light)
limit_after_le w masks keep t chosen limit None b = omega arith

-- the limit after `first`, as the code takes it
pub after : (first : Option Weighed) (limit n : ℕ) → MatchOption first (n ≡ limit) (λ f. n ≡ f.weight) → n ≡ limit_after first limit
after (Some f) limit n e = e
after None limit n e = e

-- every test is decided, and a mask is not hit
pub best_end : (w : ℕ → ℕ) (masks : List ℕ) (keep t chosen limit at : ℕ) → at < length masks → bit_and (get_or masks at 0) chosen ≡ 0 → t ≡ 24
    → Best w masks keep t chosen limit None
best_end w masks keep t chosen limit at h z e s' o =
    let same : s' ≡ chosen = sym (mod-eq_of_lt o.below) ∙ (rw e at o.agrees) in
    shares_not (get_or masks at 0) chosen z (rw same at (o.hits at h))

module _ (w : ℕ → ℕ) (masks : List ℕ) (from t chosen used : ℕ) (node : Node w masks from t chosen used) where
  -- the limit leaves no room
  pub best_full : (keep limit : ℕ) → limit ≤ used → Best w masks keep t chosen limit None
  best_full keep limit h s' o = omega (arith, agreed_weight w t chosen s' node.depth node.decided o.agrees, o.light, node.weighed)

  -- each open set needs more tests than there is room for
  pub best_crowded : (keep limit n : ℕ) → used < limit → NeedsMore w masks keep t chosen n → limit - used ≤ n → Best w masks keep t chosen limit None
  best_crowded keep limit n h more l s' o = omega (arith, more limit s' o, o.light, node.weighed)

  hit_to : (n : ℕ) → HitTo masks from chosen n → (k : ℕ) → k < n → Shares (get_or masks k 0) chosen
  hit_to n passed k l = ⊎_elim (λ h. node.hit k h) (λ h. shares (get_or masks k 0) chosen (passed k h l)) (lt_or_ge k from)

  -- every mask is hit
  pub best_hit : HitTo masks from chosen (length masks) → ((i : ℕ) → 0 < w i) → (keep limit : ℕ) → used < limit → Best w masks keep t chosen limit (Some (record { set = chosen; weight = used }))
  best_hit passed positive keep limit l = (
    record {
      below = lt_of_lt_of_le node.decided (pow_mono node.depth);
      agrees = mod-eq_of_lt node.decided;
      keeps = λ i h b. absurd (omega (arith, bit_high chosen t i node.decided h));
      hits = hit_to (length masks) passed;
      light = omega (arith, node.weighed);
    },
    node.weighed,
    λ s' o. ⊎_elim (λ q. inr (q, inl (agreed_same w t chosen s' node.depth node.decided o.agrees positive o.below q))) inl
        (eq-or-lt_of_le (agreed_weight w t chosen s' node.depth node.decided o.agrees)),
  )

  module _ (at : ℕ) (unhit : UnhitAt masks from chosen at) where
    -- the nodes below
    pub node_out : t < 24 → Node w masks at (t + 1) chosen used
    node_out l = record {
      depth = omega arith;
      decided = lt_of_lt_of_le node.decided (pow_mono (omega arith));
      weighed = node.weighed;
      start = omega (arith, unhit.high);
      hit = hit_to at unhit.passed;
    }

    pub node_in : t < 24 → Node w masks at (t + 1) (chosen + 2 ^ t) (used + w t)
    node_in l = record {
      depth = omega arith;
      decided = rw add-one (top_lt chosen t node.decided);
      weighed = omega (arith, node.weighed, weight_top w chosen t l node.decided);
      start = omega (arith, unhit.high);
      hit = λ k h. let m = hit_to at unhit.passed k h in
          (m.0, m.1, top_below chosen t m.0 node.decided (bit_below t chosen m.0 node.decided m.2) ∙ m.2);
    }
