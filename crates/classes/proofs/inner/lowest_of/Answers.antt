use Rattle.std.proofs.Common.{rules, refl, ◌∙◌}
use Rattle.terms.specs.Columns.{lowest_of, alike}
use Rattle.folds.proofs.Chains.{find_first, finds_or}
use Rattle.classes.proofs.inner.lowest_of.Goals as goal

pub returns : goal.returns
unfolding lowest_of
returns c = c.unwrap_or.ensures ∙ finds_or _ _ _ (find_first _ _ (alike _ _ _) _ _ refl (search rules) (search rules) c.find.ensures.runs)
