use Rattle.std.proofs.Common.{rules}
use Rattle.std.proofs.lemmas.List.Sorted.{IsPermutation-trans}
use Rattle.choice.proofs.few_first.Goals as goal

pub loop-n-preserved : goal.loop-n-preserved
loop-n-preserved c = (search (rules, IsPermutation-trans), search rules)
