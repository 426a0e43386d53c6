use Rattle.flat.proofs.Given.{table_right}
use Rattle.flat.proofs.inner.tables.table_of.Goals as goal

pub returns : goal.returns
returns c = table_right _ c.requires _ _ _ _ _ c.from.ensures c.from-2.ensures c.copy_from_slice.ensures.after c.copy_from_slice-2.ensures.after c.copy_from_slice-3.ensures.after
