use Prim.Native.Nat.{◌<◌}
use native.Mathlib.Omega.{arith}
use Rattle.folds.proofs.Joined.{rows_at, rows_stay, rows_put, rows_pass, rows_zero, rows_start, rows_room}
use Rattle.folds.proofs.Onto.{part_fits}
use Rattle.table.specs.Table.{columns}
use Rattle.dictionary.proofs.Rows.{row_size}
use Rattle.dictionary.proofs.write_rows.Goals.{then-lowest, else-lowest}
use Rattle.dictionary.proofs.write_rows.Goals as goal

pub loop-c-init : goal.loop-c-init
loop-c-init c = (rows_zero _ _, rows_start _ _ _)

pub overflow_add-at : goal.overflow_add-at
overflow_add-at c =
    let l : c.loop-c.c < columns c.args.given.now.table.table = omega arith in
    search (part_fits, rows_room, row_size)

pub slice_bounds-write_row-end : goal.slice_bounds-write_row-end
slice_bounds-write_row-end c =
    let l : c.loop-c.c < columns c.args.given.now.table.table = omega arith in
    search (rows_room, row_size)

pub loop-c-preserved : goal.loop-c-preserved
loop-c-preserved c = (
  elim c.if-lowest.branch [ then-lowest w ↦ search (rows_at, row_size) | else-lowest w ↦ search rows_stay ],
  elim c.if-lowest.branch [ then-lowest w ↦ search (rows_put, row_size) | else-lowest w ↦ search rows_pass ],
)
