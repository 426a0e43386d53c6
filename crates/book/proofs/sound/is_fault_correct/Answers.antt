use Rattle.std.proofs.Common.{rules, refl, ap, ◌∙◌}
use Rattle.folds.specs.Fold.{every}
use Rattle.folds.proofs.Chains.{all_every}
use Rattle.book.specs.Sound.{correct_at, fault_correct}
use Rattle.book.proofs.sound.is_fault_correct.Goals as goal

pub returns : goal.returns
unfolding fault_correct
returns c = all_every _ _ (correct_at _ _ _) _ _ refl (search rules) (search rules) c.all.ensures.runs ∙ ap (every (correct_at _ _ _)) c.tests.ensures
