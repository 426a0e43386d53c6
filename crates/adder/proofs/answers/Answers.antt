use mathlib.Core.Path.{refl}
use Rattle.adder.specs.Adder.{adder_output, answers_below, answers_of, differing}
use Rattle.adder.proofs.answers.Goals as goal

pub returns : goal.returns
unfolding adder_output answers_of answers_below differing
returns c = refl
