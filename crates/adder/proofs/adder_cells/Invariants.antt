use mathlib.Core.Path.{◌≡◌}
use Rattle.adder.specs.Adder.{answered, differing}
use Rattle.adder.proofs.adder_cells.Given as goal

abbrev pub invariant-loop-t : goal.invariant-loop-t
invariant-loop-t l = (l.t-items ≡ differing) × (l.cells ≡ answered l.t-index)
