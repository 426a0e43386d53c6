use Rattle.std.proofs.Common.{rules, refl}
use Rattle.folds.proofs.Chains.{all_every}
use Rattle.table.specs.Test.{cell_right, row_right}
use Rattle.table.proofs.Table.is_row_right.Goals as goal

pub returns : goal.returns
unfolding row_right
returns c = all_every _ _ (cell_right _ _ _ _) _ _ refl (search rules) (search rules) c.all.ensures.runs
