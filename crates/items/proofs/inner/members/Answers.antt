use Rattle.std.proofs.Common.{rules}
use Rattle.text.proofs.Adds.{each, each_start}
use Rattle.items.specs.Items.{members_text}
use Rattle.items.proofs.inner.members.Goals.{then-in_class, else-in_class}
use Rattle.items.proofs.inner.members.Goals as goal

pub loop-c-init : goal.loop-c-init
loop-c-init c = each_start _ _ _

pub loop-c-preserved : goal.loop-c-preserved
loop-c-preserved c = elim c.if-in_class.branch [ then-in_class w ↦ rw w.page-is (search each) | else-in_class w ↦ rw w.page-is (search each) ]

pub returns : goal.returns
unfolding members_text
returns c = search rules
