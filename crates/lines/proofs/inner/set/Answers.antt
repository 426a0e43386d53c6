use Rattle.lines.specs.Text.{set_line}
use Rattle.text.proofs.Adds.{adds_then}
use Rattle.lines.proofs.inner.set.Goals as goal

pub returns : goal.returns
unfolding set_line
returns c = search adds_then
