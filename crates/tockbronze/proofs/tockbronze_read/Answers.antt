use native.Mathlib.Omega.{arith}
use Rattle.flat.proofs.Room.{lays_small}
use Rattle.tockbronze.proofs.Read.{near, few_tests, few_faults, read_accepted}
use Rattle.tockbronze.proofs.tockbronze_read.Goals as goal

pub written-requires : goal.written-requires
written-requires c = (few_tests _ _ c.read_book-reading.ensures c.in-Ok.is, few_faults _ _ c.read_book-reading.ensures c.in-Ok.is)

pub packed-requires : goal.packed-requires
packed-requires c = lays_small _ _ _ _ _ c.written.ensures (omega (arith, near _ _ c.read_book-reading.ensures))

pub at_place-requires : goal.at_place-requires
at_place-requires c = omega (arith, near _ _ c.read_book-reading.ensures)

pub returns-in-Ok : goal.returns-in-Ok
returns-in-Ok c = read_accepted _ _ c.read_book-reading.ensures _ _ _ _ c.in-Ok.is c.written.ensures c.packed.ensures
