use Prim.Native.Nat.{ℕ}
use Rattle.folds.specs.Fold.{joined}
use Rattle.sets.specs.Collect.{Computes}
use Rattle.sets.specs.Sets.{has}
use Rattle.text.specs.Text.{Adds}
use Rattle.items.specs.Items.{spaced}
use Rattle.items.proofs.inner.numbers.Given as goal

abbrev pub invariant-loop-t : goal.invariant-loop-t
invariant-loop-t g l = (f : ℕ → ℕ) → Computes g.F.Fn l.number f l.tests → Adds (joined (has l.set) (λ t. spaced (f t)) l.t) l.initial.page l.page
