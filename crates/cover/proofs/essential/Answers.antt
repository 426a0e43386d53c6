use Rattle.std.proofs.lemmas.Result.{err_from_is_err_and}
use Rattle.table.proofs.Tested.{formed}
use Rattle.cover.proofs.Aside.{not_formed, essential_exactly}
use Rattle.cover.proofs.essential.Goals as goal

pub returns-in_err-table : goal.returns-in_err-table
returns-in_err-table c = let p = err_from_is_err_and c.from_residual.result c.from_residual.ensures.1 in rw (p.1, p.2) (not_formed _ _ c.in_err-table.ensures)

pub returns : goal.returns
returns c =
    let t = c.in_ok-table in
    rw (c.lone_for.ensures, c.kept_for.ensures, t.ensures.0) (formed _ t.ensures.1, essential_exactly _ _)
