use Rattle.std.proofs.Common.{◌≡◌, rules, append-nil, arith}
use Rattle.table.specs.Table.{columns}
use Rattle.folds.proofs.Joined.{joined_none}
use Rattle.cover.specs.Masks.{mask_row}
use Rattle.cover.proofs.Masks.{row_more, row_same, row_room}
use Rattle.cover.proofs.pairs.push_row.Goals.{then-mask-ne0, else-mask-ne0}
use Rattle.cover.proofs.pairs.push_row.Goals as goal

pub loop-b-init : goal.loop-b-init
loop-b-init c = rw (joined_none, append-nil)

pub push-requires : goal.push-requires
push-requires c = (search rules, row_room _ _ _ _ _ _ c.goal_mask-mask.ensures _ _ c.loop-b.invariant _ c.if-mask-ne0.true (rw c.columns-b-end.ensures at c.loop-b-test.true) c.requires.1)

pub loop-b-preserved : goal.loop-b-preserved
loop-b-preserved c = elim c.if-mask-ne0.branch [
  | then-mask-ne0 w ↦ rw w.masks-is (row_more _ _ _ _ _ _ c.goal_mask-mask.ensures _ _ c.loop-b.invariant w.if-mask-ne0.true _ w.push.ensures.items)
  | else-mask-ne0 w ↦ rw w.masks-is (row_same _ _ _ _ _ _ c.goal_mask-mask.ensures _ _ c.loop-b.invariant w.if-mask-ne0.false)
]

pub returns : goal.returns
unfolding mask_row
returns c =
    let e : c.loop-b.b ≡ columns c.args.table.now.table = omega arith in
    rw e at c.loop-b.invariant
