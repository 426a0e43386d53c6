use Rattle.std.proofs.Common.{rules, refl}
use Rattle.folds.proofs.Chains.{all_every}
use Rattle.book.specs.Sound.{fault_correct, correct_from}
use Rattle.book.proofs.sound.is_correct_from.Goals as goal

pub returns : goal.returns
unfolding correct_from
returns c = all_every _ _ (fault_correct _ _ _) _ _ refl (search rules) (search rules) c.all.ensures.runs
