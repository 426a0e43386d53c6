-- A limit that rises from 1 to 25, until something is found. Assumes nothing.
use mathlib.Core.List.{List}
use mathlib.Core.Path.{◌≡◌, ap, subst, ◌∙◌}
use Prim.Native.Nat.{ℕ, ◌+◌, ◌≤◌, ◌<◌}
use native.Mathlib.Omega.{arith}
use denote.Param.Members.{Mut, Called}
use Rattle.std.specs.Bool.{IsTrue}
use Rattle.std.specs.declared.ops.Range.{Range}
use Rattle.std.specs.Prelude.{Option, Some, None, MatchOption, IsSomeAnd, IfSome}
use Rattle.std.specs.Iterator.Runs.{SomeRun, CallKeepsClosure, AllItemsGive, IsFirstToGive}
use Rattle.std.specs.Option.{option_map}
use Rattle.std.proofs.iter.Yields.{nat_range_steps}
use Rattle.std.proofs.iter.runs.Sources.{range_runs}
use Rattle.sets.specs.Sets.{one}
use Rattle.choice.specs.declared.search.Weighed.{Weighed}
use Rattle.choice.specs.Search.{Best}
use Rattle.choice.proofs.Tree.{best_raised}

module _ {F : Type 0} (g : Mut F (ℕ × Unit {0}) (Option Weighed)) (f : F) (masks : List ℕ) (keep : ℕ) (s : Range ℕ) (low : s.start ≡ 1) (high : s.end ≡ 26)
    (keeps : CallKeepsClosure g f) (says : (i : ℕ) (b : Option Weighed) (f' : F) → i ≤ 25 → Called g f (i, tt) b f' → Best one masks keep 0 0 i b) where
  found : (o : Option ℕ) (y : Weighed) (k : ℕ) → IsSomeAnd o (λ x. Called g f (x, tt) (Some y) f) → IfSome o (λ x. (x ≡ k) × (x < 26)) → Best one masks keep 0 0 25 (Some y)
  found None y k c l = absurd c
  found (Some x) y k c l = best_raised one masks keep 0 0 x 25 y (omega (arith, l.1)) (says x (Some y) f (omega (arith, l.1)) c)

  none : (o : Option ℕ) → option_map (λ y. y) o ≡ Some 25 → IfSome o (λ x. Called g f (x, tt) None f) → Best one masks keep 0 0 25 None
  none None e c = absurd (cc)
  none (Some x) e c = says 25 None f (omega arith) (subst (λ (k : ℕ). Called g f (k, tt) None f) (cc) c)

  pub rises : (r : Option Weighed)
      → SomeRun nat_range_steps s (λ u. MatchOption r (IsTrue u.whole × AllItemsGive u g f None) (λ y. (i : ℕ) × (i < u.len) × (u.len ≡ i + 1) × IsFirstToGive u g f (Some y) None i))
      → Best one masks keep 0 0 25 r
  rises None (u, e, (whole, all)) =
      let c = range_runs u u.seen in
      let a : u.from.start ≡ 1 = ap (λ (k : Range ℕ). k.start) e ∙ low in
      let b : u.from.end ≡ 26 = ap (λ (k : Range ℕ). k.end) e ∙ high in
      none (u.at 24) (c.3 24 (omega (arith, c.1 whole)) ∙ ap (λ (k : ℕ). Some (k + 24)) a) (all keeps 24)
  rises (Some y) (u, e, (i, l, long, first)) =
      let c = range_runs u u.seen in
      let b : u.from.end ≡ 26 = ap (λ (k : Range ℕ). k.end) e ∙ high in
      found (u.at i) y (u.from.start + i) (first keeps).0 (rw b at c.2 i)
