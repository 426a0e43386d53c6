use Prim.Native.Nat.{◌<◌}
use native.Mathlib.Omega.{arith}
use Rattle.std.proofs.Common.{rules}
use Rattle.folds.proofs.Joined.{rows_zero, rows_start, rows_room, rows_at, rows_stay, rows_put, rows_pass}
use Rattle.folds.proofs.Onto.{part_length, part_fits}
use Rattle.table.specs.Table.{columns}
use Rattle.witness.proofs.Rows.{low_in, left_start, left_no, left_some, left_above, left_size, left_yes}
use Rattle.witness.proofs.sheet.write_sheet.Goals.{then-has, else-has}
use Rattle.witness.proofs.sheet.write_sheet.Goals as goal

pub loop-c-init : goal.loop-c-init
loop-c-init c = (search left_start, rows_zero _ _, rows_start _ _ _)

pub overflow_sub-left : goal.overflow_sub-left
overflow_sub-left c =
    let l : c.loop-c.c < columns c.args.given.now.table.table = omega arith in
    search (left_some, low_in)

pub overflow_add-at : goal.overflow_add-at
overflow_add-at c =
    let l : c.loop-c.c < columns c.args.given.now.table.table = omega arith in
    search (part_fits, rows_room, left_size, low_in) fits 5000

pub slice_bounds-write_row-end : goal.slice_bounds-write_row-end
slice_bounds-write_row-end c =
    let l : c.loop-c.c < columns c.args.given.now.table.table = omega arith in
    search (rows_room, left_size, low_in)

pub write_row-requires : goal.write_row-requires
write_row-requires c =
    let l : c.loop-c.c < columns c.args.given.now.table.table = omega arith in
    (omega (arith, c.args.given.now.table.faults_fit), search rules, search (part_length, rows_room, left_size, left_above, low_in))

pub loop-c-preserved : goal.loop-c-preserved
loop-c-preserved c =
    let l : c.loop-c.c < columns c.args.given.now.table.table = omega arith in (
      elim c.if-has.branch [ then-has w ↦ search (left_yes, low_in) | else-has w ↦ search (left_no, low_in) ],
      elim c.if-has.branch [ then-has w ↦ search (rows_at, left_size, low_in) | else-has w ↦ search (rows_stay, low_in) ],
      elim c.if-has.branch [ then-has w ↦ search (rows_put, left_size, low_in) | else-has w ↦ search (rows_pass, low_in) ],
    )
