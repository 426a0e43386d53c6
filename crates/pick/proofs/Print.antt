-- What `report` says it wrote lies in the page. Assumes nothing.
use mathlib.Core.List.{List}
use mathlib.Core.Path.{◌≡◌, sym, ap}
use Prim.Native.Nat.{ℕ, ◌≤◌}
use native.Mathlib.Omega.{arith}
use lib.ListN.{length, take}
use lib.Seq.{length-take-le}
use Rattle.folds.proofs.Onto.{onto_length}
use Rattle.lent.specs.Lent.{WritesOnto}
use Rattle.lent.proofs.Lent.{room_had}
use Rattle.report.specs.Answer.{ReportIs}
use Rattle.table.specs.declared.Refusal.{Refusal}
use Rattle.std.specs.Prelude.{Result, Ok}

pub printed : (book entry : List ℕ) (r : Result ℕ Refusal) (n : ℕ) (exit : List ℕ) → r ≡ Ok n → ReportIs book entry r exit → n ≤ length exit
printed book entry r n exit e p =
    let w : WritesOnto 0 p.text entry (Ok n) exit = rw e at p.written in
    let l = room_had p.text entry w.number in
    omega (arith, w.count, ap length w.buffer, onto_length p.text entry l)

-- the front of a buffer is as long as it says
pub front : (n : ℕ) (buf : List ℕ) → n ≤ length buf → n ≡ length (take n buf)
front n buf h = sym (length-take-le n buf h)
