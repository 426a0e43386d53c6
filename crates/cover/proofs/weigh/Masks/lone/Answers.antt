use Rattle.std.proofs.Common.{rules}
use Rattle.folds.proofs.Chains.{any_slice}
use Rattle.cover.specs.Kept.{lone, is_at}
use Rattle.cover.proofs.weigh.Masks.lone.Goals as goal

pub returns : goal.returns
unfolding lone is_at
returns c = any_slice _ _ (is_at _ _ _) c.args.self.now.masks.now _ (search rules) (search rules) _ c.iter.ensures.rest c.any.ensures.runs
