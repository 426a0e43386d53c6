use Rattle.table.proofs.Tested.{tested}
use Rattle.lines.specs.Text.{table_text}
use Rattle.lines.proofs.Numbers.{classes_are, numbered}
use Rattle.text.proofs.Adds.{adds_then}
use Rattle.lines.proofs.inner.table.Goals as goal

pub classes-requires : goal.classes-requires
classes-requires c = numbered _ _ (tested _ c.requires) c.numbered-classed.ensures

pub returns : goal.returns
unfolding table_text
returns c =
    let sized = rw c.tests.ensures at c.sizes.ensures in
    rw (classes_are _ _ (tested _ c.requires) c.numbered-classed.ensures) (adds_then _ _ _ _ _ sized (adds_then _ _ _ _ _ c.four_sets.ensures c.classes.ensures))
