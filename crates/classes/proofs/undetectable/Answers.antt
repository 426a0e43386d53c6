use Rattle.classes.proofs.Calls.{undetectable_ok}
use Rattle.classes.proofs.undetectable.Goals as goal

pub returns : goal.returns
returns c = undetectable_ok _ c.in_ok-of.field-0 _ c.in_ok-of.ensures c.undetected_set.ensures
