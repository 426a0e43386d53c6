use Rattle.std.proofs.Common.{rules, refl}
use Rattle.choice.proofs.Rising.{rises}
use Rattle.choice.proofs.search.Search.lightest.Goals as goal

pub returns : goal.returns
returns c = rises _ _ c.args.self.now.masks.now c.args.self.now.kept _ refl refl (search rules) (search rules) _ c.find_map.ensures.runs
