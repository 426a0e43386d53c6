use Rattle.std.proofs.Common.{◌≡◌, ◌++◌}
use Rattle.table.specs.Table.{output_at}
use Rattle.folds.specs.Fold.{gather}
use Rattle.cover.specs.Masks.{goal_mask, counts}
use Rattle.cover.proofs.pairs.push_row.Given as goal

abbrev pub invariant-loop-b : goal.invariant-loop-b
invariant-loop-b l =
    l.masks.items ≡ l.initial.masks.items ++ gather (counts (output_at l.table.table) l.table.table.tests l.goal l.a) (goal_mask (output_at l.table.table) l.table.table.tests l.goal l.a) l.b
