use Rattle.lines.proofs.Pieces.{class_done}
use Rattle.lines.proofs.inner.class.Goals as goal

pub returns : goal.returns
returns c = let low-is = rw c.columns.ensures at c.lowest_in-lowest.ensures in search (class_done, low-is)
