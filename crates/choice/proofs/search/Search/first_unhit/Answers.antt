use Rattle.std.proofs.Common.{rules, drop, length, ◌∙◌}
use Rattle.folds.specs.Fold.{Finds}
use Rattle.folds.proofs.Chains.{position_slice}
use Rattle.choice.proofs.Unhit.{missed, rest_is, none_unhit, unhit_at}
use Rattle.choice.proofs.search.Search.first_unhit.Goals.{After-position}
use Rattle.choice.proofs.search.Search.first_unhit.Goals as goal

found : (c : After-position) → Finds (missed c.args.self.now.masks.now c.args.from c.args.chosen) (length (drop c.args.from c.args.self.now.masks.now)) c.position.result
found c =
    let masks = c.args.self.now.masks.now in
    let from = c.args.from in
    position_slice _ _ (missed masks from c.args.chosen) (drop from masks) c.iter.result (search rules) (search rules) _ (c.iter.ensures.rest ∙ rest_is masks from) c.position.ensures.runs

pub returns-in_err-next : goal.returns-in_err-next
returns-in_err-next c = rw c.from_residual.ensures (none_unhit _ _ _ c.requires (rw c.in_err-next.was at (found (goal.at.returns-in_err-next c).After-position)))

pub returns : goal.returns
returns c = unhit_at _ _ _ _ (rw c.in_ok-next.was at (found (goal.at.returns c).After-position))
