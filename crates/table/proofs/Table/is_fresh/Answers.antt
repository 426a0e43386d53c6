use Rattle.std.proofs.Common.{rules, refl}
use Rattle.folds.proofs.Chains.{all_every}
use Rattle.table.specs.Test.{differ, fresh}
use Rattle.table.proofs.Table.is_fresh.Goals as goal

pub returns : goal.returns
unfolding fresh
returns c = all_every _ _ (differ _ _ _) _ _ refl (search rules) (search rules) c.all.ensures.runs
