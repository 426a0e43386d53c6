use Rattle.book.proofs.Loop.{begins, less_left, onwards}
use Rattle.book.proofs.inner.read_by.Goals as goal

pub loop-step-init : goal.loop-step-init
loop-step-init g c = search begins

pub loop-step-smaller : goal.loop-step-smaller
loop-step-smaller g c = let r = c.loop-step.invariant in
    less_left _ _ _ _ r (c.requires.steps _ _ r.reached c.step-got.ensures) _ c.in-Ok-Some.is c.in-Ok-Some.field-0-0 (rw c.in-Ok-Some.is at c.in-Ok-Some.field-0-is)

pub loop-step-preserved : goal.loop-step-preserved
loop-step-preserved g c = let r = c.loop-step.invariant in
    onwards _ _ _ _ r (c.requires.steps _ _ r.reached c.step-got.ensures) _ c.in-Ok-Some.is c.in-Ok-Some.field-0-0 (rw c.in-Ok-Some.is at c.in-Ok-Some.field-0-is)
