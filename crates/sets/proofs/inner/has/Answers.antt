use Rattle.sets.proofs.Bits.{has_shift}
use Rattle.sets.proofs.inner.has.Goals as goal

pub returns : goal.returns
returns c = has_shift _ _
