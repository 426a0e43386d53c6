use Rattle.std.proofs.Common.{rules, refl}
use Rattle.table.specs.Table.{output_at}
use Rattle.terms.specs.Columns.{agrees, alike}
use Rattle.folds.specs.Fold.{every}
use Rattle.folds.proofs.Chains.{all_every}
use Rattle.folds.proofs.Ends.{at_end}
use Rattle.classes.proofs.inner.alike.Goals as goal

pub returns : goal.returns
unfolding alike agrees
returns c =
    at_end (every (agrees (output_at c.args.table.now.table) c.args.a c.args.b)) _ _ _ c.tests.ensures
    (all_every _ _ (agrees (output_at c.args.table.now.table) c.args.a c.args.b) _ _ refl (search rules) (search rules) c.all.ensures.runs)
