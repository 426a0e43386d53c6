use mathlib.Core.Path.{◌≡◌}
use Rattle.adder.specs.Adder.{correct_output, rows_filled}
use Rattle.adder.proofs.correct_cells.Given as goal

abbrev pub invariant-loop-t : goal.invariant-loop-t
invariant-loop-t l = l.cells ≡ rows_filled correct_output l.t
