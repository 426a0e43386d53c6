use native.Mathlib.Omega.{arith}
use Rattle.table.specs.Table.{cell_at}
use Rattle.table.proofs.Cells.{place_fits}
use Rattle.table.proofs.inner.cell.Goals as goal

pub bounds-cells-at : goal.bounds-cells-at
bounds-cells-at c = omega (arith, c.place-at.ensures, place_fits c.args.t c.args.c c.requires.0 c.requires.1)

pub returns : goal.returns
unfolding cell_at
returns c = rw c.place-at.ensures
