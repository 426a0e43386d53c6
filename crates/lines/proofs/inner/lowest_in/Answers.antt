use Rattle.std.proofs.Common.{refl, rules, ◌∙◌}
use Rattle.folds.proofs.Chains.{find_first, finds_or}
use Rattle.items.specs.Items.{in_class}
use Rattle.lines.proofs.inner.lowest_in.Goals as goal

pub returns : goal.returns
returns c = c.unwrap_or.ensures ∙ finds_or _ _ _ (find_first _ _ (in_class _ _) _ _ refl (search rules) (search rules) c.find.ensures.runs)
