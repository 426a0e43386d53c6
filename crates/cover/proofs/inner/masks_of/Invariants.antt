use Rattle.std.proofs.Common.{◌≡◌}
use Rattle.table.specs.Table.{output_at, columns}
use Rattle.cover.proofs.Fill.{rows_to}
use Rattle.cover.proofs.inner.masks_of.Given as goal

abbrev pub invariant-loop-a : goal.invariant-loop-a
invariant-loop-a l = l.masks.items ≡ rows_to (output_at l.table.table) l.table.table.tests l.goal (columns l.table.table) l.a
