use Rattle.std.proofs.Common.{rules}
use Rattle.lines.specs.Text.{class_lines}
use Rattle.lines.proofs.Pieces.{numbered_at}
use Rattle.text.proofs.Adds.{each_all, each_start}
use Rattle.lines.proofs.inner.classes.Goals as goal

pub loop-k-init : goal.loop-k-init
loop-k-init c = each_start _ _ _

pub class-requires : goal.class-requires
class-requires c = search numbered_at

pub loop-k-preserved : goal.loop-k-preserved
loop-k-preserved c = search each_all

pub returns : goal.returns
unfolding class_lines
returns c = search rules
