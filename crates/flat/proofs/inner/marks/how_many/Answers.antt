use Rattle.std.proofs.Common.{rules, refl}
use native.Mathlib.Omega.{arith}
use Rattle.sets.specs.Sets.{bit}
use Rattle.folds.proofs.Chains.{sum_total, sum_fits}
use Rattle.flat.proofs.Marked.{total_small}
use Rattle.flat.proofs.inner.marks.how_many.Goals as goal

pub sum-requires-clause-fits : goal.sum-requires-clause-fits
sum-requires-clause-fits c = sum_fits _ _ (bit c.args.set) _ _ _ refl (search rules) (search rules) c.map.ensures.runs (omega (arith, total_small c.args.set c.args.n, c.requires))

pub returns : goal.returns
returns c = sum_total _ _ (bit c.args.set) _ _ _ refl (search rules) (search rules) c.map.ensures.runs (c.sum.ensures.runs tt)
