use mathlib.Core.Path.{refl}
use Prim.Native.Nat.{◌<◌}
use native.Mathlib.Omega.{arith}
use Rattle.folds.proofs.Count.{count_start, count_fits, count_up, count_on}
use Rattle.folds.proofs.Gather.{gather_room}
use Rattle.suspects.proofs.Walk.{walk_start, walk_pass, walk_take, walk_stop, walk_end}
use Rattle.suspects.proofs.compare.Observed.is_suspect.Goals.{then-has+else-self-next, else-has}
use Rattle.suspects.proofs.compare.Observed.is_suspect.Goals as goal

pub loop-t-init : goal.loop-t-init
loop-t-init c = (count_start _, walk_start _ _ c.args.self.now.outputs.now _)

pub bounds-self-next : goal.bounds-self-next
bounds-self-next c =
    gather_room _ _ _ _ _ _ _ c.loop-t.invariant.0 (omega (arith, c.loop-t-test.true, c.tests-t-end.ensures)) c.has.ensures c.if-has.true refl c.args.self.now.one_each

pub returns-then-self-next : goal.returns-then-self-next
returns-then-self-next c =
    walk_stop _ _ _ _ _ _ _ _ _ c.loop-t.invariant.0 (omega (arith, c.loop-t-test.true, c.tests-t-end.ensures)) c.has.ensures c.if-has.true c.output.ensures c.if-self-next.true

pub overflow_add-next : goal.overflow_add-next
overflow_add-next c = omega (arith, count_fits _ _ _ c.loop-t.invariant.0)

pub loop-t-preserved : goal.loop-t-preserved
loop-t-preserved c =
    let inside : c.loop-t.t < c.args.self.now.given.now.table.table.tests = omega (arith, c.loop-t-test.true, c.tests-t-end.ensures) in
    elim c.if-has.branch [
      | then-has+else-self-next w ↦
          let room = gather_room _ _ _ _ _ _ _ c.loop-t.invariant.0 inside c.has.ensures w.if-has.true refl c.args.self.now.one_each in
          (search count_up, walk_take _ _ _ _ _ _ _ c.loop-t.invariant.1 c.has.ensures _ _ w.if-has.true room w.output.ensures w.if-self-next.false w.next-is)
      | else-has w ↦ (search count_on, search walk_pass)
    ]

pub returns : goal.returns
returns c = walk_end _ _ _ _ _ _ _ c.args.self.now.one_each c.loop-t.invariant.0 c.loop-t.invariant.1 (omega (arith, c.loop-t-test.false, c.loop-t.auto.t-end, c.tests-t-end.ensures))
