use Rattle.std.proofs.Common.{rules, arith}
use Rattle.input.proofs.Reading.{reads_on}
use Rattle.input.proofs.inner.read_full.Goals as goal

pub loop-done-preserved : goal.loop-done-preserved
loop-done-preserved g c = (
  search rules,
  search rules,
  reads_on _ _ _ c.loop-done.done _ c.in_ok-more.more c.loop-done.buf c.read.new.buf (omega arith) c.in_ok-more.ensures.bound.0
      c.loop-done.invariant.2 c.in_ok-more.ensures.bytes.0,
)
