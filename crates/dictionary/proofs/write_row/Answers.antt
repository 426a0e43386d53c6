use Rattle.std.proofs.Common.{rules}
use Rattle.folds.specs.Fold.{gather}
use Rattle.folds.proofs.Ends.{at_end}
use Rattle.sets.specs.Sets.{has}
use Rattle.table.specs.Table.{output_at}
use Rattle.terms.specs.Columns.{output_of}
use Rattle.dictionary.proofs.write_row.Goals as goal

pub returns : goal.returns
unfolding output_of
returns c =
    at_end (gather (has c.args.given.now.set) (output_of (output_at c.args.given.now.table.table) c.args.c)) _ _ _ c.tests.ensures
    (c.gather.ensures (has c.args.given.now.set) (output_of (output_at c.args.given.now.table.table) c.args.c) (search rules) (search rules))
