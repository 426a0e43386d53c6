use Rattle.std.proofs.Common.{rules}
use Rattle.items.specs.Items.{output_item, signature_text}
use Rattle.table.specs.Table.{output_at}
use Rattle.items.proofs.inner.signature.Goals as goal

pub returns : goal.returns
unfolding signature_text output_item
returns c = c.numbers.ensures (λ t. output_at c.args.table.now.table t c.args.c) (search rules)
