use Rattle.std.proofs.Common.{rules}
use Rattle.text.proofs.Adds.{each_start, each_put, each_pass}
use Rattle.items.proofs.Pieces.{list_none, list_some}
use Rattle.items.proofs.inner.numbers.Goals.{then-has, else-has}
use Rattle.items.proofs.inner.numbers.Goals as goal

pub returns-then-size-eq0 : goal.returns-then-size-eq0
returns-then-size-eq0 g c f e = search list_none

pub loop-t-init : goal.loop-t-init
loop-t-init g c f e = each_start _ _ _

pub loop-t-preserved : goal.loop-t-preserved
loop-t-preserved g c f e = elim c.if-has.branch [
  | then-has w ↦
      let n-is = e c.loop-t.t w.number.result c.loop-t-test.true w.number.ensures in
      rw w.page-is (each_put _ _ _ _ c.has.result _ _ (c.loop-t.invariant f e) (search rules) (search rules) (rw n-is at w.spaced.ensures))
  | else-has w ↦ rw w.page-is (each_pass _ _ _ _ c.has.result _ (c.loop-t.invariant f e) (search rules) (search rules))
]

pub returns : goal.returns
returns g c f e = list_some _ _ _ _ _ _ c.size.ensures (search rules) (search (rules, c.loop-t.invariant f e))
