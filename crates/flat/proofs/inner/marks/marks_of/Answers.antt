use Rattle.std.proofs.Common.{rules}
use Rattle.sets.specs.Sets.{bit}
use Rattle.flat.proofs.Marked.{from_listed}
use Rattle.flat.proofs.inner.marks.marks_of.Goals as goal

pub returns : goal.returns
returns c = from_listed _ _ (bit c.args.set) (search rules) _ _ (search rules) c.from_fn.ensures.items
