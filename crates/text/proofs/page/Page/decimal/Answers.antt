use Rattle.std.proofs.Common.{rules}
use Rattle.text.proofs.Adds.{decimal_printed}
use Rattle.text.proofs.page.Page.decimal.Goals as goal

pub returns : goal.returns
returns c = rw (decimal_printed c.args.n c.ranges.n.fits) (search rules)
