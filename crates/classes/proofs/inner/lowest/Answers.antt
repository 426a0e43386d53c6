use Rattle.std.proofs.Common.{rules, refl}
use Rattle.terms.specs.Columns.{lowest, apart}
use Rattle.folds.proofs.Chains.{all_every}
use Rattle.classes.proofs.inner.lowest.Goals as goal

pub returns : goal.returns
unfolding lowest apart
returns c = all_every _ _ (apart _ _ _) _ _ refl (search rules) (search rules) c.all.ensures.runs
