-- What passes the test of a reading so far has counts within the sizes. Assumes nothing.
use mathlib.Core.Bool.{true}
use mathlib.Core.Path.{◌≡◌}
use Rattle.folds.proofs.Bools.{both_left}
use Rattle.table.proofs.Tested.{formed}
use Rattle.records.specs.declared.SoFar.{SoFar}
use Rattle.records.specs.Step.{CountsFit}
use Rattle.book.specs.Sound.{sound_test}

pub sound_counts : (sofar : SoFar) → sound_test sofar ≡ true → CountsFit sofar
unfolding sound_test
sound_counts sofar e = let w = formed sofar.table (both_left _ _ e) in record { tests = w.tests_fit; faults = w.faults_fit }
