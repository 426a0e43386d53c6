use native.Mathlib.Omega.{arith}
use Rattle.suspects.proofs.Few.{few_found}
use Rattle.flat.proofs.Room.{lays_small}
use Rattle.tockbronze.proofs.Laid.{suspects_laid, suspects_refused}
use Rattle.tockbronze.proofs.tockbronze_suspects.Goals as goal

pub packed-requires : goal.packed-requires
packed-requires c = lays_small _ _ _ _ _ c.laid.ensures (omega (arith, few_found _ _ _ _ c.in-Ok.ensures))

pub returns-in-Ok : goal.returns-in-Ok
returns-in-Ok c = suspects_laid _ _ c.table_in.ensures _ _ _ _ c.in-Ok.ensures _ _ _ _ _ c.laid.ensures c.packed.ensures (omega arith) (omega arith)

pub returns-in-Err : goal.returns-in-Err
returns-in-Err c = suspects_refused _ _ c.table_in.ensures _ _ _ _ c.in-Err.ensures _ c.packed-in-Err.ensures
