use Rattle.std.proofs.Common.{◌+◌, arith, length-drop}
use Rattle.std.proofs.lemmas.List.{get_or-drop}
use Rattle.choice.proofs.Bound.{covered_none, covered_needs, covered_more}
use Rattle.sets.proofs.Weight.{one_positive}
use Rattle.choice.proofs.Unhit.{rest_is}
use Rattle.choice.proofs.search.Search.still_needed.Goals as goal

pub loop-mask-init : goal.loop-mask-init
loop-mask-init c = covered_none _ _ _ _ _ c.requires.1

pub returns-then-room-spread : goal.returns-then-room-spread
returns-then-room-spread c = covered_needs _ _ _ _ _ c.requires.1 _ _ c.loop-mask.invariant

pub loop-mask-preserved : goal.loop-mask-preserved
loop-mask-preserved c =
    let x = c.loop-mask in
    let masks = c.args.self.now.masks.now in
    let here = rw rest_is at c.loop-mask-test.true in
    covered_more _ _ _ _ _ c.requires.1 _ c.rest_of-rest.ensures (c.args.node.from + x.mask-index) (omega (arith, here, length-drop c.args.node.from masks)) _ (get_or-drop c.args.node.from masks x.mask-index 0)
    one_positive _ _ _ _ x.invariant (rw rest_is at c.with_mask-spread.ensures)

pub returns : goal.returns
returns c = covered_needs _ _ _ _ _ c.requires.1 _ _ c.loop-mask.invariant
