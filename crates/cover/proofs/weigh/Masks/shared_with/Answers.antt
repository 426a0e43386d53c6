use Rattle.std.proofs.Common.{rules}
use Rattle.cover.proofs.Shared.{shared_by}
use Rattle.cover.proofs.weigh.Masks.shared_with.Goals as goal

pub returns : goal.returns
returns c = shared_by c.args.self.now.masks.now c.args.t _ _ _ _ (search rules) c.iter.ensures.rest c.fold.ensures.runs
