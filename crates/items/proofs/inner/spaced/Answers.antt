use Rattle.items.proofs.Pieces.{spaced_done}
use Rattle.items.proofs.inner.spaced.Goals as goal

pub returns : goal.returns
returns c = search spaced_done
