use Rattle.lines.specs.Text.{sizes_line}
use Rattle.text.proofs.Adds.{adds_then}
use Rattle.lines.proofs.inner.sizes.Goals as goal

pub returns : goal.returns
unfolding sizes_line
returns c = search adds_then depth 8
