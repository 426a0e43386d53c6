use Prim.Native.Nat.{◌<◌}
use native.Mathlib.Omega.{arith}
use Rattle.folds.proofs.Count.{count_start, count_fits, count_up, count_on}
use Rattle.folds.proofs.Gather.{gather_start, gather_pass}
use Rattle.suspects.specs.Suspects.{unlisted}
use Rattle.suspects.proofs.Listed.{list_put, found_end}
use Rattle.suspects.proofs.compare.Observed.suspects.Goals.{then-is_suspect, else-is_suspect}
use Rattle.suspects.proofs.compare.Observed.suspects.Goals as goal

pub loop-c-init : goal.loop-c-init
unfolding unlisted
loop-c-init c = (count_start _, gather_start _ _ _)

pub bounds-columns-count : goal.bounds-columns-count
bounds-columns-count c = omega (arith, count_fits _ _ _ c.loop-c.invariant.0, c.args.self.now.given.now.table.faults_fit)

pub overflow_add-count : goal.overflow_add-count
overflow_add-count c = omega (arith, count_fits _ _ _ c.loop-c.invariant.0)

pub loop-c-preserved : goal.loop-c-preserved
loop-c-preserved c =
    let l : c.loop-c.c < 61 = omega (arith, c.args.self.now.given.now.table.faults_fit) in
    elim c.if-is_suspect.branch [
      | then-is_suspect w ↦ (search count_up, search list_put)
      | else-is_suspect w ↦ (search count_on, search gather_pass)
    ]

pub returns : goal.returns
returns c = found_end c.args.self.now.given.now.table.table _ _ _ _ _ _ c.loop-c.invariant.0 c.loop-c.invariant.1 (omega arith) (omega arith)
