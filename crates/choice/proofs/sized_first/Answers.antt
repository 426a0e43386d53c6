use Rattle.std.proofs.Common.{rules}
use Rattle.std.proofs.lemmas.List.Sorted.{IsPermutation-trans}
use Rattle.choice.proofs.sized_first.Goals.{then-masks-i, else-masks-i}
use Rattle.choice.proofs.sized_first.Goals as goal

pub loop-i-preserved : goal.loop-i-preserved
loop-i-preserved c = (
  elim c.if-masks-i.branch [ then-masks-i w ↦ search (rules, IsPermutation-trans) | else-masks-i w ↦ search rules ],
  elim c.if-masks-i.branch [ then-masks-i w ↦ search rules | else-masks-i w ↦ search rules ],
)
