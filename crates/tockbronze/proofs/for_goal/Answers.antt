use Rattle.std.proofs.Common.{rules}
use Rattle.tockbronze.proofs.Goals.{for_goal}
use Rattle.tockbronze.proofs.for_goal.Goals as goal

pub returns-in-Ok : goal.returns-in-Ok
returns-in-Ok g c = for_goal (λ tb h a. g.F.FnOnce.post c.args.call (tb, (h, tt)) a) _ _ _ _ c.table_in-given.ensures _ _ c.in-Ok.ensures c.call.ensures c.of_chosen.ensures
