use native.Mathlib.Omega.{arith}
use Rattle.sets.proofs.Collect.{with_in, one_shl}
use Rattle.sets.proofs.inner.with.Goals as goal

pub returns : goal.returns
returns c = rw (one_shl 32 c.args.t (omega arith), with_in)
