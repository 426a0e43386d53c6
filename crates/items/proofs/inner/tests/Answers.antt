use Rattle.std.proofs.Common.{rules}
use Rattle.items.specs.Items.{tests_text}
use Rattle.items.proofs.inner.tests.Goals as goal

pub returns : goal.returns
unfolding tests_text
returns c = c.numbers.ensures (λ t. t) (search rules)
