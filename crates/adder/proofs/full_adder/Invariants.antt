use mathlib.Core.Path.{◌≡◌}
use Rattle.adder.specs.Adder.{line_label, no_labels, stuck_label}
use Rattle.folds.specs.Fold.{listed, onto}
use Rattle.adder.proofs.full_adder.Given as goal

abbrev pub invariant-loop-f : goal.invariant-loop-f
invariant-loop-f l = (l.lines ≡ onto (listed line_label l.f) no_labels) × (l.stuck ≡ onto (listed stuck_label l.f) no_labels)
