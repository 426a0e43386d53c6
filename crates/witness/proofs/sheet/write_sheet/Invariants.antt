use mathlib.Core.Path.{◌≡◌}
use Prim.Native.Nat.{◌+◌}
use lib.ListN.{length}
use Rattle.folds.specs.Fold.{count, joined, onto}
use Rattle.table.specs.Table.{output_at, columns}
use Rattle.terms.specs.Columns.{lowest}
use Rattle.terms.specs.Terms.{class_count}
use Rattle.witness.specs.Witness.{witnesses}
use Rattle.witness.proofs.sheet.write_sheet.Given as goal

abbrev pub invariant-loop-c : goal.invariant-loop-c
invariant-loop-c l =
    (l.left + count (lowest (output_at l.given.table.table) l.given.table.table.tests) l.c ≡ class_count l.given.table.table)
    × (l.at ≡ length (joined (lowest (output_at l.given.table.table) l.given.table.table.tests) (witnesses (output_at l.given.table.table) l.given.table.table.tests l.given.set (columns l.given.table.table)) l.c))
    × (l.buf ≡ onto (joined (lowest (output_at l.given.table.table) l.given.table.table.tests) (witnesses (output_at l.given.table.table) l.given.table.table.tests l.given.set (columns l.given.table.table)) l.c) l.initial.buf)
