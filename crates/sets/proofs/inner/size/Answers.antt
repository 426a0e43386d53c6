use Rattle.std.proofs.Common.{rules, refl}
use Rattle.sets.specs.Sets.{has}
use Rattle.folds.proofs.Chains.{count_filter}
use Rattle.sets.proofs.inner.size.Goals as goal

pub returns : goal.returns
returns c = count_filter _ _ (has _) _ _ _ refl (search rules) (search rules) c.filter.ensures.source c.filter.ensures.closure c.count.ensures.ran
