use Rattle.lent.proofs.Lent.{laid_short, laid_all}
use Rattle.lent.proofs.inner.laid.Goals as goal

pub returns-then-buf-answer : goal.returns-then-buf-answer
returns-then-buf-answer c = laid_short _ _ c.if-buf-answer.true

pub returns : goal.returns
returns c = laid_all _ _ _ c.copy_from_slice.ensures.after c.if-buf-answer.false
