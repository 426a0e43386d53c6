use mathlib.Core.Path.{◌≡◌}
use Rattle.grow.specs.Grow.{filled}
use Rattle.grow.proofs.inner.filled.Given as goal

abbrev pub invariant-loop-t : goal.invariant-loop-t
invariant-loop-t l = l.next ≡ filled l.cells l.column l.t
