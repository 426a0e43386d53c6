use Rattle.flat.proofs.Marked.{marked_first}
use Rattle.flat.proofs.inner.marks.marked.Goals as goal

pub returns : goal.returns
returns c = marked_first _ _ _ _ _ _ _ c.how_many.ensures c.marks_of.ensures c.requires c.laid.ensures
