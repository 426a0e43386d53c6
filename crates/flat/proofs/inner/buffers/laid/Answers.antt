use Rattle.std.proofs.lemmas.Result.{err_from_is_err_and}
use Rattle.flat.proofs.Room.{lays_refused, lays_written}
use Rattle.flat.proofs.inner.buffers.laid.Goals as goal

pub returns-in_err-laid : goal.returns-in_err-laid
returns-in_err-laid c =
    let p = err_from_is_err_and c.from_residual.result c.from_residual.ensures.1 in
    let w = rw c.in_err-laid.was at c.laid.ensures in
    rw (p.1, p.2) (lays_refused _ _ _ _ _ w)

pub returns : goal.returns
returns c = let w = rw c.in_ok-laid.was at c.laid.ensures in lays_written _ _ _ _ _ w
