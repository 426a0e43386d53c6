use Rattle.sets.specs.Sets.{one}
use Rattle.choice.proofs.Bound.{Covered}
use Rattle.choice.proofs.search.Search.still_needed.Given as goal

abbrev pub invariant-loop-mask : goal.invariant-loop-mask
invariant-loop-mask l = Covered one l.self.masks.now l.self.kept l.fn.node.t l.fn.node.chosen.set l.spread.taken l.spread.weight
