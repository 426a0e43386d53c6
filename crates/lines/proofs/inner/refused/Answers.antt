use Rattle.lines.specs.Text.{refused_text}
use Rattle.text.proofs.Adds.{adds_then}
use Rattle.lines.proofs.inner.refused.Goals as goal

pub returns : goal.returns
unfolding refused_text
returns c = search adds_then
