use Rattle.std.proofs.Common.{rules}
use Rattle.folds.proofs.Chains.{any_slice}
use Rattle.cover.specs.Kept.{used, has_at}
use Rattle.cover.proofs.weigh.Masks.uses.Goals as goal

pub returns : goal.returns
unfolding used has_at
returns c = any_slice _ _ (has_at _ _) c.args.self.now.masks.now _ (search rules) (search rules) _ c.iter.ensures.rest c.any.ensures.runs
