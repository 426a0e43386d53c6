use Rattle.std.proofs.Common.{rules, refl}
use Rattle.terms.specs.Columns.{lowest}
use Rattle.folds.proofs.Chains.{count_filter}
use Rattle.classes.proofs.inner.class_count.Goals as goal

pub returns : goal.returns
returns c =
    rw (← c.columns.ensures)
    (count_filter _ _ (lowest _ _) _ _ _ refl (search rules) (search rules) c.filter.ensures.source c.filter.ensures.closure c.count.ensures.ran)
