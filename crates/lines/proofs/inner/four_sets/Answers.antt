use Rattle.lines.specs.Text.{set_lines}
use Rattle.text.proofs.Adds.{adds_then}
use Rattle.lines.proofs.inner.four_sets.Goals as goal

pub returns : goal.returns
unfolding set_lines
returns c = search adds_then
