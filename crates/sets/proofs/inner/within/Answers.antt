use Rattle.sets.proofs.Bits.{within_shift}
use Rattle.sets.proofs.inner.within.Goals as goal

pub returns : goal.returns
returns c = within_shift _ _
