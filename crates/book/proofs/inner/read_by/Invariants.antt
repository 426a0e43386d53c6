use Prim.Native.Nat.{◌-◌}
use lib.ListN.{length}
use Rattle.book.proofs.Loop.{Reads}
use Rattle.book.proofs.inner.read_by.Given as goal

abbrev pub invariant-loop-step : goal.invariant-loop-step
invariant-loop-step g l = Reads l.book l.place l.sofar

abbrev pub decreases-loop-step : goal.decreases-loop-step
decreases-loop-step g l = length l.book - l.place
