use native.Mathlib.Omega.{arith}
use Rattle.adder.specs.Adder.{nothing}
use Rattle.adder.proofs.Fill.{answer_test, answer_fault, answers_start, answers_store, answers_end}
use Rattle.table.proofs.Cells.{place_below}
use Rattle.adder.proofs.adder_cells.Goals as goal

pub loop-t-init : goal.loop-t-init
loop-t-init c = (c.answers-t-items.ensures, answers_start _ c.correct_cells-cells.ensures)

pub place-requires : goal.place-requires
unfolding nothing
place-requires c =
    let t = answer_test _ c.loop-t.invariant.0 _ _ c.from.ensures c.loop-t-test.true in
    let f = answer_fault _ c.loop-t.invariant.0 _ _ c.from-in-loop-t.ensures c.loop-t-test.true in
    (omega arith, omega arith)

pub bounds-cells-place : goal.bounds-cells-place
unfolding nothing
bounds-cells-place c =
    let t = answer_test _ c.loop-t.invariant.0 _ _ c.from.ensures c.loop-t-test.true in
    let f = answer_fault _ c.loop-t.invariant.0 _ _ c.from-in-loop-t.ensures c.loop-t-test.true in
    place_below _ _ _ c.place.ensures (omega arith) (omega arith)

pub loop-t-preserved : goal.loop-t-preserved
unfolding nothing
loop-t-preserved c =
    (c.loop-t.invariant.0, answers_store _ c.loop-t.invariant.0 _ _ _ _ _ c.from.ensures c.from-in-loop-t.ensures c.place.ensures c.loop-t.invariant.1)

pub returns : goal.returns
returns c = answers_end _ _ _ (omega arith) (omega arith) c.loop-t.invariant.1
