use Rattle.std.proofs.Common.{arith}
use Rattle.std.proofs.lemmas.Result.{err_from_is_err_and}
use Rattle.sets.proofs.Collect.{one_shl}
use Rattle.table.proofs.Tested.{formed}
use Rattle.cover.proofs.Aside.{not_formed, kept_fits, aside_exactly}
use Rattle.cover.proofs.set_aside.Goals as goal

pub returns-in_err-table : goal.returns-in_err-table
returns-in_err-table c = let p = err_from_is_err_and c.from_residual.result c.from_residual.ensures.1 in rw (p.1, p.2) (not_formed _ _ c.in_err-table.ensures)

pub overflow_sub-result-2 : goal.overflow_sub-result-2
overflow_sub-result-2 c =
    let t = c.in_ok-table in
    rw (one_shl 32 c.tests.result (omega (arith, t.table.tests_fit)), c.tests.ensures, c.kept_for.ensures) (omega (arith, kept_fits t.table.table c.args.goal))

pub returns : goal.returns
returns c =
    let t = c.in_ok-table in
    rw (one_shl 32 c.tests.result (omega (arith, t.table.tests_fit)), c.kept_for.ensures, c.tests.ensures, t.ensures.0) (formed _ t.ensures.1, aside_exactly _ _)
