use mathlib.Core.Path.{◌∙◌}
use Rattle.records.specs.Step.{step_at}
use Rattle.records.proofs.Judged.{steps_past, steps_refused}
use Rattle.records.proofs.cursor.Cursor.step.Goals as goal

pub returns-in-Ok : goal.returns-in-Ok
unfolding step_at
returns-in-Ok c = steps_past _ _ _ _ c.in-Ok.ensures

pub returns-in-Err : goal.returns-in-Err
unfolding step_at
returns-in-Err c = c.refuse.ensures ∙ steps_refused _ _ _ _ _ c.in-Err.ensures.1 c.in-Err.ensures.0
