use borrow.Author.Rules.{rules}
use Rattle.table.specs.Table.{place_of}
use Rattle.table.proofs.inner.place.Goals as goal

pub returns : goal.returns
unfolding place_of
returns c = search rules
