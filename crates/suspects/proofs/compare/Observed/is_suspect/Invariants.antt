use mathlib.Core.Path.{◌≡◌}
use lib.ListN.{take}
use Rattle.folds.specs.Fold.{count}
use Rattle.sets.specs.Sets.{has}
use Rattle.table.specs.Table.{output_at}
use Rattle.terms.specs.Columns.{outputs_under}
use Rattle.suspects.proofs.compare.Observed.is_suspect.Given as goal

abbrev pub invariant-loop-t : goal.invariant-loop-t
invariant-loop-t l =
    (l.next ≡ count (has l.self.given.now.set) l.t)
    × (outputs_under (output_at l.self.given.now.table.table) l.t l.self.given.now.set l.c ≡ take l.next l.self.outputs.now)
