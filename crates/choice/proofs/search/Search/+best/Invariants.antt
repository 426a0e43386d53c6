-- The measure is the number of tests left.
use Prim.Native.Nat.{◌-◌}
use Rattle.choice.proofs.search.Search.+best.Given as goal

abbrev pub decreases-best : goal.decreases-best
decreases-best l = 24 - l.node.t
