use native.Mathlib.Omega.{arith}
use Rattle.std.proofs.Common.{rules, refl}
use Rattle.table.specs.Table.{output_at}
use Rattle.folds.proofs.Chains.{find_first}
use Rattle.witness.specs.Witness.{separates}
use Rattle.witness.proofs.Rows.{some_witness, none_witness}
use Rattle.witness.proofs.sheet.witness.Goals as goal

pub overflow_cast-result : goal.overflow_cast-result
overflow_cast-result c =
    let h = (some_witness (output_at c.args.given.now.table.table) _ c.args.given.now.set c.args.a c.args.b _ _ c.tests.ensures _ (find_first _ _ (separates _ _ _ _) _ _ refl (search rules) (search rules) c.find.ensures.runs) c.in-Some.is).0 in
    record { fits = omega (arith, c.args.given.now.table.tests_fit, c.tests.ensures) }

pub returns-in-Some : goal.returns-in-Some
returns-in-Some c =
    (some_witness _ _ _ _ _ _ _ c.tests.ensures _ (find_first _ _ (separates _ _ _ _) _ _ refl (search rules) (search rules) c.find.ensures.runs) c.in-Some.is).1

pub returns-in-None : goal.returns-in-None
returns-in-None c =
    none_witness _ _ _ _ _ _ 0 c.tests.ensures _ (find_first _ _ (separates _ _ _ _) _ _ refl (search rules) (search rules) c.find.ensures.runs) c.in-None.is
