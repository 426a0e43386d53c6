-- What each return asks is a law of proofs/Tree.antt.
use Rattle.std.proofs.Common.{◌≡◌, ◌<◌, arith, rules, sym}
use Rattle.sets.specs.Sets.{one}
use Rattle.sets.proofs.Bits.{has_bit, lacks_bit}
use Rattle.sets.proofs.Collect.{with_in}
use Rattle.sets.proofs.Weight.{one_is, one_positive}
use Rattle.choice.specs.Search.{limit_after}
use Rattle.choice.proofs.Tree as tree
use Rattle.choice.proofs.search.Search.+best.Goals as goal

pub returns-then-limit-node : goal.returns-then-limit-node
returns-then-limit-node t c = tree.best_full _ _ _ _ _ _ c.requires.0 _ _ (omega (arith, c.if-limit-node.true))

pub returns-in_default : goal.returns-in_default
returns-in_default t c = tree.best_hit _ _ _ _ _ _ c.requires.0 c.in_default.ensures one_positive _ _ (omega (arith, c.if-limit-node.false))

pub returns-then-node-eq24 : goal.returns-then-node-eq24
returns-then-node-eq24 t c = tree.best_end _ _ _ _ _ _ _ c.in-Some.ensures.high c.in-Some.ensures.stopped c.if-node-eq24.true

pub returns-then-room-still_needed : goal.returns-then-room-still_needed
returns-then-room-still_needed t c = tree.best_crowded _ _ _ _ _ _ c.requires.0 _ _ _ (omega arith) c.still_needed.ensures (omega (arith, c.if-room-still_needed.true))

pub best-requires : goal.best-requires
best-requires t c =
    let deep : c.args.node.t < 24 = omega (arith, c.requires.0.depth, c.if-node-eq24.false) in
    (omega (arith, deep, c.decreases), (tree.node_out _ _ _ _ _ _ c.requires.0 _ c.in-Some.ensures deep, c.requires.1))

pub returns-then-not-has : goal.returns-then-not-has
returns-then-not-has t c =
    tree.best_skip _ c.args.self.now.masks.now _ _ _ c.requires.0.decided c.args.limit c.best.result (lacks_bit _ _ (rw c.from.ensures at (sym c.if-not-has.ensures))) c.best.ensures

pub overflow_add-with : goal.overflow_add-with
overflow_add-with t c = omega (arith, c.weight_of.ensures, one_is c.args.node.t, c.requires.1)

pub best-first-requires : goal.best-first-requires
best-first-requires t c =
    let deep : c.args.node.t < 24 = omega (arith, c.requires.0.depth, c.if-node-eq24.false) in
    let node = tree.node_in _ _ _ _ _ _ c.requires.0 _ c.in-Some.ensures deep in
    (omega (arith, deep, c.decreases), (rw (c.with.ensures, with_in, c.weight_of.ensures) node, c.requires.1))

pub best-later-requires : goal.best-later-requires
best-later-requires t c =
    let a = c.args in
    let deep : a.node.t < 24 = omega (arith, c.requires.0.depth, c.if-node-eq24.false) in
    let limit = tree.limit_after_le one a.self.now.masks.now _ _ _ a.limit c.best-first.result c.best-first.ensures in
    let after : c.map_or.result ≡ limit_after c.best-first.result a.limit = tree.after c.best-first.result a.limit c.map_or.result (search rules) in
    (omega (arith, deep, c.decreases), (tree.node_out _ _ _ _ _ _ c.requires.0 _ c.in-Some.ensures deep, omega (arith, after, limit, c.requires.1)))

pub returns : goal.returns
returns t c =
    let a = c.args in
    let after : c.map_or.result ≡ limit_after c.best-first.result a.limit = tree.after c.best-first.result a.limit c.map_or.result (search rules) in
    tree.best_joined one a.self.now.masks.now _ _ _ c.requires.0.decided a.limit c.best-first.result c.best-later.result c.or.result (search rules)
    (has_bit _ _ (rw c.from.ensures at (sym c.if-not-has.ensures)))
    (rw (c.with.ensures, with_in) at c.best-first.ensures)
    (rw after at c.best-later.ensures)
