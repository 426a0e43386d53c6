use Rattle.std.proofs.Common.{ℕ, ap, ◌∙◌}
use Rattle.items.proofs.Pieces.{member_good, member_fault}
use Rattle.items.proofs.inner.member.Goals as goal

pub returns-then-c-eq0 : goal.returns-then-c-eq0
returns-then-c-eq0 c = search member_good

pub returns : goal.returns
returns c =
    let line = c.from.ensures ∙ ap (λ (p : ℕ × ℕ). p.0) c.label-line.ensures in
    let stuck = c.from-2.ensures ∙ ap (λ (p : ℕ × ℕ). p.1) c.label-line.ensures in
    member_fault _ _ _ _ _ _ _ _ _ c.if-c-eq0.false line stuck c.spaced.ensures c.put.ensures c.decimal.ensures
