use Rattle.std.proofs.Common.{rules, refl}
use Rattle.grow.specs.Grow.{differs}
use Rattle.folds.proofs.Chains.{all_every}
use Rattle.grow.proofs.inner.is_new.Goals as goal

pub returns : goal.returns
returns c = all_every _ _ (differs _ _ _ _) _ _ refl (search rules) (search rules) c.all.ensures.runs
