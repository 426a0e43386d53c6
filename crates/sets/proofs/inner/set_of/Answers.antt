use Prim.Native.Nat.{◌<◌}
use native.Mathlib.Omega.{arith}
use Rattle.sets.proofs.Collect.{set_start, set_up, set_on, up_lt, on_lt}
use Rattle.sets.proofs.inner.set_of.Goals.{then-p, else-p}
use Rattle.sets.proofs.inner.set_of.Goals as goal

pub loop-i-init : goal.loop-i-init
loop-i-init g c = (omega arith, omega arith, λ q h. set_start q)

pub loop-i-preserved : goal.loop-i-preserved
loop-i-preserved g c =
    let below : c.loop-i.i < c.args.n = omega (arith, c.loop-i-test.true) in
    elim c.if-p.branch [
      | then-p w ↦ (omega arith, up_lt 64 _ _ _ (omega (arith, c.requires.small)) c.loop-i.invariant.1 w.set-is, λ q h. set_up 64 q _ _ (omega (arith, c.requires.small)) (c.loop-i.invariant.2 q h) _ _ (h _ _ below c.p.ensures) w.if-p.true w.set-is)
      | else-p w ↦ (omega arith, on_lt _ _ _ c.loop-i.invariant.1 w.set-is, λ q h. set_on q _ _ _ _ (c.loop-i.invariant.2 q h) (h _ _ below c.p.ensures) w.if-p.false w.set-is)
    ]
