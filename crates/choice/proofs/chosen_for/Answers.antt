use Rattle.choice.proofs.Root.{sought_by}
use Rattle.choice.proofs.chosen_for.Goals as goal

pub returns : goal.returns
returns c =
    let table = c.args.table.now in
    sought_by table.table c.requires c.args.goal _ _ _ c.masks_of-masks.ensures (rw c.deref_mut.ensures.value at c.few_first.ensures) c.deref-2.ensures.0
    _ (rw (c.deref.ensures.0, c.tests.ensures) at c.kept_tests-kept.ensures) c.lightest.result c.lightest.ensures
