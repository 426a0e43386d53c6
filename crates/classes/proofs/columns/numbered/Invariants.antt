use mathlib.Core.Path.{◌≡◌}
use Rattle.folds.specs.Fold.{count, listed, onto}
use Rattle.table.specs.Table.{output_at}
use Rattle.terms.specs.Columns.{lowest, class_number}
use Rattle.classes.specs.Classes.{unnumbered}
use Rattle.classes.proofs.columns.numbered.Given as goal

abbrev pub invariant-loop-c : goal.invariant-loop-c
invariant-loop-c l =
    (l.next ≡ count (lowest (output_at l.table.table) l.table.table.tests) l.c)
    × (l.of ≡ onto (listed (class_number (output_at l.table.table) l.table.table.tests) l.c) unnumbered)
