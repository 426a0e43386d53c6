use native.Mathlib.Omega.{arith}
use Rattle.flat.proofs.Written.{written_short, written_all}
use Rattle.flat.proofs.inner.tables.written.Goals as goal

pub returns-then-buf-lt-LENGTH : goal.returns-then-buf-lt-LENGTH
returns-then-buf-lt-LENGTH c = written_short _ _ _ c.if-buf-lt-LENGTH.true

pub returns : goal.returns
returns c =
    written_all c.args.given.now (omega arith) (omega arith) (omega arith) _ _ _ _ _ c.copy_from_slice.ensures.after c.copy_from_slice-2.ensures.after c.copy_from_slice-3.ensures.after c.if-buf-lt-LENGTH.false
