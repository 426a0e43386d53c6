use Rattle.std.proofs.Common.{rules}
use Rattle.tockbronze.specs.Calls.{GivesChoice}
use Rattle.tockbronze.proofs.Goals.{promised, cap_same}
use Rattle.tockbronze.proofs.tockbronze_choose.Goals as goal

pub returns : goal.returns
returns c = promised (GivesChoice c.args.cap) _ _ _ _ c.for_goal.ensures (λ a p. cap_same _ _ _ _ a c.cap_of-cap.ensures (search rules))
