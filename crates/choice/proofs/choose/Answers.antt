use mathlib.Core.Logic.{inl, inr}
use Rattle.std.proofs.Common.{refl}
use Rattle.std.proofs.lemmas.Result.{err_from_is_err_and}
use Rattle.table.proofs.Tested.{formed}
use Rattle.cover.proofs.Aside.{not_formed}
use Rattle.choice.proofs.Root.{capped}
use Rattle.choice.proofs.choose.Goals as goal

pub returns-in_err-table : goal.returns-in_err-table
returns-in_err-table c =
    let p = err_from_is_err_and c.from_residual.result c.from_residual.ensures.1 in
    let n = not_formed _ _ c.in_err-table.ensures in
    rw (p.1, p.2) (inl (n.1, n.0))

pub returns-then-cap-gt24 : goal.returns-then-cap-gt24
returns-then-cap-gt24 c = let t = c.in_ok-table in inr (inl (refl, formed _ t.ensures.1, c.if-cap-gt24.true))

pub chosen_for-requires : goal.chosen_for-requires
chosen_for-requires c = let t = c.in_ok-table in rw t.ensures.0 (formed _ t.ensures.1)

pub returns : goal.returns
returns c =
    let t = c.in_ok-table in
    rw c.within_cap.ensures (capped _ (formed _ t.ensures.1) _ _ c.if-cap-gt24.false _ (rw t.ensures.0 at c.chosen_for.ensures))
