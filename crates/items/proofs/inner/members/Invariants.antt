use Rattle.folds.specs.Fold.{joined}
use Rattle.text.specs.Text.{Adds}
use Rattle.items.specs.Items.{in_class, member_text}
use Rattle.items.proofs.inner.members.Given as goal

abbrev pub invariant-loop-c : goal.invariant-loop-c
invariant-loop-c l = Adds (joined (in_class l.of l.k) (member_text l.table.table.lines l.table.table.stuck) l.c) l.initial.page l.page
