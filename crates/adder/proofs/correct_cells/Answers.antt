use mathlib.Core.List.{List, [], ◌∷◌}
use mathlib.Core.Path.{◌≡◌, refl, ap, ◌∙◌}
use Prim.Native.Nat.{ℕ}
use lib.ListN.{get_or}
use Rattle.adder.specs.Adder.{adder_output}
use Rattle.folds.specs.Fold.{always, joined, listed, single}
use Rattle.folds.proofs.Gather.{listed_get}
use Rattle.adder.proofs.Fill.{rows_start, correct_row, rows_end}
use Rattle.adder.proofs.correct_cells.Goals as goal

outputs : ℕ → ℕ
outputs t = adder_output t 0

right : 0 ∷ 2 ∷ 2 ∷ 1 ∷ 2 ∷ 1 ∷ 1 ∷ 3 ∷ [] ≡ listed outputs 8
unfolding outputs adder_output always joined single
right = refl

pub loop-t-init : goal.loop-t-init
loop-t-init c = rows_start _

pub loop-t-preserved : goal.loop-t-preserved
unfolding outputs
loop-t-preserved c =
    correct_row _ _ _ _ (ap (λ (l : List ℕ). get_or l c.loop-t.t 0) right ∙ listed_get outputs 8 c.loop-t.t c.loop-t-test.true) c.loop-t.invariant c.fill_row.ensures

pub returns : goal.returns
returns c = search rows_end
