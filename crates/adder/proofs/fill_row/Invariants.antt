use mathlib.Core.Path.{◌≡◌}
use Rattle.adder.specs.Adder.{row_filled, same}
use Rattle.adder.proofs.fill_row.Given as goal

abbrev pub invariant-loop-c : goal.invariant-loop-c
invariant-loop-c l = l.cells ≡ row_filled (same l.output) l.t l.c l.initial.cells
