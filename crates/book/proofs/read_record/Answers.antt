use mathlib.Core.Path.{sym, ◌∙◌}
use Rattle.book.proofs.Sounds.{sound_counts}
use Rattle.book.proofs.read_record.Goals as goal

pub invariant_of-step : goal.invariant_of-step
invariant_of-step c = let k = sound_counts _ (sym c.is_sound.ensures ∙ c.if-not-is_sound.false) in record { tests_fit = k.tests; faults_fit = k.faults }
