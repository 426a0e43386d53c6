use Rattle.items.specs.Items.{in_class}
use Rattle.items.proofs.inner.in_class.Goals as goal

pub returns : goal.returns
unfolding in_class
returns c = rw c.from.ensures
