use mathlib.Core.Path.{refl}
use native.Mathlib.Omega.{arith}
use Rattle.adder.specs.Adder.{same}
use Rattle.adder.proofs.Fill.{row_start, row_store, row_end}
use Rattle.table.proofs.Cells.{place_below}
use Rattle.adder.proofs.fill_row.Goals as goal

pub loop-c-init : goal.loop-c-init
loop-c-init c = row_start _ _ _

pub bounds-cells-place : goal.bounds-cells-place
bounds-cells-place c = place_below _ _ _ c.place.ensures (omega arith) (omega arith)

pub loop-c-preserved : goal.loop-c-preserved
unfolding same
loop-c-preserved c = row_store (same c.args.output) _ _ _ _ _ _ c.loop-c.invariant c.place.ensures refl

pub returns : goal.returns
returns c = search row_end
