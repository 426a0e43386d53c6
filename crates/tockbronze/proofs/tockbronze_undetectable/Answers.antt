use native.Mathlib.Omega.{arith}
use Rattle.flat.proofs.Room.{lays_small}
use Rattle.flat.proofs.Marked.{total_small}
use Rattle.tockbronze.proofs.Laid.{given_formed, marks_laid, marks_refused}
use Rattle.tockbronze.proofs.tockbronze_undetectable.Goals as goal

pub marked-requires : goal.marked-requires
marked-requires c = let w = given_formed _ _ c.in-Ok.ensures in omega (arith, w.tests_fit, w.faults_fit)

pub packed-requires : goal.packed-requires
packed-requires c =
    let w = given_formed _ _ c.in-Ok.ensures in
    lays_small _ _ _ _ _ c.marked.ensures (omega (arith, w.tests_fit, w.faults_fit, total_small))

pub returns-in-Ok : goal.returns-in-Ok
returns-in-Ok c = marks_laid _ _ c.table_in-given.ensures _ _ c.in-Ok.ensures _ _ _ c.marked.ensures c.packed.ensures

pub returns-in-Err : goal.returns-in-Err
returns-in-Err c = marks_refused _ _ c.table_in-given.ensures _ _ c.in-Err.ensures _ c.packed-in-Err.ensures
