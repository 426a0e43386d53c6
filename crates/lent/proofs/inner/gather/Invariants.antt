use Rattle.std.proofs.Common.{◌≡◌, ℕ, Bool}
use Rattle.folds.specs.Fold.{count, gather, onto}
use Rattle.sets.specs.Collect.{Computes}
use Rattle.lent.specs.Row.{Values}
use Rattle.lent.proofs.inner.gather.Given as goal

abbrev pub invariant-loop-i : goal.invariant-loop-i
invariant-loop-i g l =
    ((q : ℕ → Bool) → Computes g.P.Fn l.p q l.n → l.j ≡ count q l.i)
    × ((q : ℕ → Bool) (h : ℕ → ℕ) → Computes g.P.Fn l.p q l.n → Values g.F.Fn l.f h l.n → l.row ≡ onto (gather q h l.i) l.initial.row)
