use mathlib.Core.Path.{◌≡◌}
use lib.ListN.{length}
use Rattle.folds.specs.Fold.{onto}
use Rattle.table.specs.Table.{output_at}
use Rattle.dictionary.specs.Dictionary.{rows_under}
use Rattle.dictionary.proofs.write_rows.Given as goal

abbrev pub invariant-loop-c : goal.invariant-loop-c
invariant-loop-c l =
    (l.at ≡ length (rows_under (output_at l.given.table.table) l.given.table.table.tests l.given.set l.c))
    × (l.buf ≡ onto (rows_under (output_at l.given.table.table) l.given.table.table.tests l.given.set l.c) l.initial.buf)
