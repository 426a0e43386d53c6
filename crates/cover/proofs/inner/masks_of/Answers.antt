use Rattle.std.proofs.Common.{◌≡◌, rules, arith}
use Rattle.table.specs.Table.{columns}
use Rattle.cover.specs.Masks.{masks_of}
use Rattle.cover.proofs.Fill.{rows_to, rows_none, rows_more, rows_room}
use Rattle.cover.proofs.inner.masks_of.Goals as goal

pub loop-a-init : goal.loop-a-init
loop-a-init c = rw rows_none c.new-masks.ensures

pub push_row-requires : goal.push_row-requires
push_row-requires c = (search rules, rw c.loop-a.invariant (rows_room _ _ _ _ _ (omega arith) (search rules)))

pub loop-a-preserved : goal.loop-a-preserved
loop-a-preserved c = rw (rows_more, ← c.loop-a.invariant) c.push_row.ensures

pub returns : goal.returns
unfolding masks_of rows_to
returns c =
    let e : c.loop-a.a ≡ columns c.args.table.now.table = omega arith in
    rw e at c.loop-a.invariant
