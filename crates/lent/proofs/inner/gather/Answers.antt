use Rattle.std.proofs.Common.{◌≤◌, ◌<◌, ◌+◌}
use native.Mathlib.Nat.{lt_of_le_of_lt}
use native.Mathlib.Omega.{arith}
use Rattle.folds.proofs.Count.{count_start, count_fits, count_up, count_on}
use Rattle.folds.proofs.Gather.{gather_start, gather_room, gather_store, gather_pass}
use Rattle.lent.proofs.Row.{row_done}
use Rattle.lent.proofs.inner.gather.Goals.{then-p, else-p}
use Rattle.lent.proofs.inner.gather.Goals as goal

pub loop-i-init : goal.loop-i-init
loop-i-init g c = (λ q k. count_start q, λ q h k v. gather_start q h _)

pub bounds-row-j : goal.bounds-row-j
bounds-row-j g c =
    let q = c.requires.long.0 in
    let k = c.requires.long.1 in
    let below : c.loop-i.i < c.args.n = omega (arith, c.loop-i-test.true) in
    gather_room q _ _ _ _ _ _ (c.loop-i.invariant.0 q k) below (k _ _ below c.p.ensures) c.if-p.true c.loop-i.auto.row c.requires.long.2

pub overflow_add-j : goal.overflow_add-j
overflow_add-j g c =
    let below : c.loop-i.i < c.args.n = omega (arith, c.loop-i-test.true) in
    let few : c.loop-i.j + 1 ≤ c.args.n = omega (arith, count_fits _ _ _ (c.loop-i.invariant.0 c.requires.long.0 c.requires.long.1)) in
    record { fits = lt_of_le_of_lt few c.ranges.n.fits }

pub loop-i-preserved : goal.loop-i-preserved
loop-i-preserved g c =
    let below : c.loop-i.i < c.args.n = omega (arith, c.loop-i-test.true) in
    elim c.if-p.branch [
      | then-p w ↦ (
        λ q k. count_up q _ _ _ _ (c.loop-i.invariant.0 q k) (k _ _ below c.p.ensures) w.if-p.true w.j-is,
        λ q h k v. gather_store q h _ _ _ _ _ _ _ (c.loop-i.invariant.1 q h k v) (c.loop-i.invariant.0 q k)
            (gather_room c.requires.long.0 _ _ _ _ _ _ (c.loop-i.invariant.0 c.requires.long.0 c.requires.long.1) below (c.requires.long.1 _ _ below c.p.ensures) w.if-p.true c.loop-i.auto.row c.requires.long.2)
            c.loop-i.auto.row (k _ _ below c.p.ensures) w.if-p.true (v _ _ below w.f.ensures) w.row-is,
      )
      | else-p w ↦ (
        λ q k. count_on q _ _ _ _ (c.loop-i.invariant.0 q k) (k _ _ below c.p.ensures) w.if-p.false w.j-is,
        λ q h k v. gather_pass q h _ _ _ _ _ (c.loop-i.invariant.1 q h k v) (k _ _ below c.p.ensures) w.if-p.false w.row-is,
      )
    ]

pub returns : goal.returns
returns g c = λ q h k v. row_done c.requires.long.0 q h _ _ _ _ _ (c.loop-i.invariant.1 q h k v) (c.loop-i.invariant.0 q k) (c.loop-i.invariant.0 c.requires.long.0 c.requires.long.1) (omega (arith, c.loop-i-test.false, c.loop-i.auto.i-end)) c.requires.long.2
