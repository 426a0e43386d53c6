use Rattle.std.proofs.Common.{rules, refl}
use Rattle.folds.proofs.Chains.{all_every}
use Rattle.table.specs.Test.{row_right}
use Rattle.table.proofs.Table.rows_right.Goals as goal

pub returns : goal.returns
returns c = all_every _ _ (row_right _ _ _) _ _ refl (search rules) (search rules) c.all.ensures.runs
