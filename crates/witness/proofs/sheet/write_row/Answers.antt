use mathlib.Core.Path.{sym, ap, ◌∙◌}
use Rattle.std.proofs.Common.{rules}
use Rattle.folds.specs.Fold.{count, gather}
use Rattle.folds.proofs.Ends.{at_end}
use Rattle.table.specs.Table.{output_at}
use Rattle.witness.specs.Witness.{above, witness_of}
use Rattle.witness.proofs.Rows.{above_computed}
use Rattle.witness.proofs.sheet.write_row.Goals as goal

pub gather-requires-clause-long : goal.gather-requires-clause-long
gather-requires-clause-long c = (
  above (output_at c.args.given.now.table.table) c.args.given.now.table.table.tests c.args.a,
  above_computed _ _ _ _ _ _ _ c.columns.ensures c.requires.1 (search rules),
  c.requires.2 ∙ ap (count (above _ _ _)) (sym c.columns.ensures),
)

pub returns : goal.returns
returns c =
    at_end (gather (above (output_at c.args.given.now.table.table) c.args.given.now.table.table.tests c.args.a) (witness_of _ _ _ _)) _ _ _ c.columns.ensures
    (c.gather.ensures (above (output_at c.args.given.now.table.table) c.args.given.now.table.table.tests c.args.a) (witness_of _ _ _ _) (above_computed _ _ _ _ _ _ _ c.columns.ensures c.requires.1 (search rules)) (search rules))
