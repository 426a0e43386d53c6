use Rattle.std.proofs.Common.{◌≡◌, ◌≤◌, ◌<◌, ◌^◌, ℕ, Bool}
use Rattle.sets.specs.Collect.{set_of, Computes}
use Rattle.sets.proofs.inner.set_of.Given as goal

abbrev pub invariant-loop-i : goal.invariant-loop-i
invariant-loop-i g l = (l.i ≤ l.n) × (l.set < 2 ^ l.i) × ((q : ℕ → Bool) → Computes g.F.Fn l.p q l.n → l.set ≡ set_of q l.i)
