use native.Mathlib.Omega.{arith}
use Rattle.flat.proofs.Room.{lays_small}
use Rattle.tockbronze.proofs.Laid.{few_counted, classes_laid, classes_refused}
use Rattle.tockbronze.proofs.tockbronze_classes.Goals as goal

pub packed-requires : goal.packed-requires
packed-requires c = lays_small _ _ _ _ _ c.laid.ensures (omega (arith, few_counted _ _ c.in-Ok.ensures))

pub returns-in-Ok : goal.returns-in-Ok
returns-in-Ok c = classes_laid _ _ c.table_in-given.ensures _ _ c.in-Ok.ensures _ _ _ c.laid.ensures c.packed.ensures

pub returns-in-Err : goal.returns-in-Err
returns-in-Err c = classes_refused _ _ c.table_in-given.ensures _ _ c.in-Err.ensures _ c.packed-in-Err.ensures
