use mathlib.Core.Path.{◌≡◌}
use Rattle.folds.specs.Fold.{count, gather, onto}
use Rattle.table.specs.Table.{output_at}
use Rattle.suspects.specs.Suspects.{suspect, itself, unlisted}
use Rattle.suspects.proofs.compare.Observed.suspects.Given as goal

abbrev pub invariant-loop-c : goal.invariant-loop-c
invariant-loop-c l =
    (l.count ≡ count (suspect (output_at l.self.given.now.table.table) l.self.given.now.table.table.tests l.self.given.now.set l.self.outputs.now) l.c)
    × (l.columns ≡ onto (gather (suspect (output_at l.self.given.now.table.table) l.self.given.now.table.table.tests l.self.given.now.set l.self.outputs.now) itself l.c) unlisted)
