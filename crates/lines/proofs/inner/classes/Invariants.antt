use Rattle.folds.specs.Fold.{always, joined}
use Rattle.lines.specs.Text.{class_line}
use Rattle.text.specs.Text.{Adds}
use Rattle.lines.proofs.inner.classes.Given as goal

abbrev pub invariant-loop-k : goal.invariant-loop-k
invariant-loop-k l = Adds (joined always (class_line l.table.table l.classed.of l.set) l.k) l.initial.page l.page
