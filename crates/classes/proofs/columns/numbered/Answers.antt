use Prim.Native.Nat.{◌<◌}
use native.Mathlib.Omega.{arith}
use Rattle.folds.proofs.Count.{count_start, count_fits}
use Rattle.classes.specs.Classes.{unnumbered}
use Rattle.classes.proofs.Numbers.{numbers_start, old_next, old_number, new_next, new_number, numbered_end}
use Rattle.classes.proofs.columns.numbered.Goals.{then-low-c, else-low-c}
use Rattle.classes.proofs.columns.numbered.Goals as goal

pub loop-c-init : goal.loop-c-init
unfolding unnumbered
loop-c-init c = (count_start _, numbers_start _ _)

pub overflow_add-next : goal.overflow_add-next
overflow_add-next c = omega (arith, count_fits _ _ _ c.loop-c.invariant.0)

pub loop-c-preserved : goal.loop-c-preserved
loop-c-preserved c =
    let l : c.loop-c.c < 61 = omega (arith, c.args.table.now.faults_fit) in (
      elim c.if-low-c.branch [ then-low-c w ↦ search old_next | else-low-c w ↦ search new_next ],
      elim c.if-low-c.branch [ then-low-c w ↦ search old_number | else-low-c w ↦ search new_number ],
    )

pub returns : goal.returns
returns c = search numbered_end
