use mathlib.Core.Path.{refl, ◌∙◌}
use Rattle.adder.specs.Adder.{line_label, stuck_label}
use Rattle.adder.proofs.Fill.{labels_start, labels_store, stuck_byte, table_right}
use Rattle.adder.proofs.full_adder.Goals as goal

pub loop-f-init : goal.loop-f-init
loop-f-init c = (labels_start line_label, labels_start stuck_label)

pub loop-f-preserved : goal.loop-f-preserved
unfolding line_label
loop-f-preserved c =
    (labels_store line_label _ _ _ c.loop-f.invariant.0 c.loop-f-test.true refl, labels_store stuck_label _ _ _ c.loop-f.invariant.1 c.loop-f-test.true (c.from.ensures ∙ stuck_byte _))

pub returns : goal.returns
returns c = search table_right
