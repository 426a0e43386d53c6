use Rattle.std.proofs.Common.{◌≤◌, length}
use Rattle.std.specs.List.Sorted.{IsPermutation}
use Rattle.choice.proofs.few_first.Given as goal

abbrev pub invariant-loop-n : goal.invariant-loop-n
invariant-loop-n l = IsPermutation l.initial.masks l.masks × (l.front ≤ length l.masks)
