-- At most 61 suspects are found, of any table. Assumes nothing.
use mathlib.Core.Bool.{Bool, true, false}
use mathlib.Core.List.{List}
use mathlib.Core.Path.{◌≡◌, refl}
use Prim.Native.Nat.{ℕ, ◌≤◌}
use native.Mathlib.Omega.{arith}
use lib.Dec.{eqb}
use lib.ListN.{length}
use Rattle.std.specs.Prelude.{Result, Ok, Err}
use Rattle.folds.specs.Fold.{pick, count}
use Rattle.folds.proofs.Count.{count_le}
use Rattle.sets.specs.Sets.{has, within}
use Rattle.table.proofs.Tested.{formed}
use Rattle.table.specs.Table.{output_at, columns}
use Rattle.table.specs.Test.{well_formed}
use Rattle.table.specs.declared.Refusal.{Refusal}
use Rattle.table.specs.declared.Refusal.TheVariants.{NotWellFormed, UnknownTest}
use Rattle.table.specs.declared.Suspects.{Suspects}
use Rattle.table.specs.declared.Table.{Table}
use Rattle.suspects.specs.Suspects.{suspect, found_under, suspects_of, answer_suspects}

pick_has : (P : Result Suspects Refusal → Type 0) (b : Bool) (x y : Result Suspects Refusal) → (b ≡ true → P x) → P y → P (pick b x y)
pick_has P true x y p q = p refl
pick_has P false x y p q = q

few_suspects : (tb : Table) (s : ℕ) (seen : List ℕ) → (answer_suspects (suspects_of tb s seen)).count ≤ 61
unfolding suspects_of found_under
few_suspects tb s seen =
    pick_has Few (well_formed tb) _ (Err NotWellFormed)
    (λ w. pick_has Few (within s tb.tests) _ (Err UnknownTest)
    (λ _. pick_has Few (eqb (length seen) (count (has s) tb.tests)) (Ok (found_under (output_at tb) tb.tests s seen (columns tb))) _
    (λ _. omega (arith, (formed tb w).faults_fit, count_le (suspect (output_at tb) tb.tests s seen) (columns tb)))
    (omega arith)) (omega arith)) (omega arith)
  where
    Few : Result Suspects Refusal → Type 0
    Few a = (answer_suspects a).count ≤ 61

pub few_found : (tb : Table) (s : ℕ) (seen : List ℕ) (a : Suspects) → ◌≡◌ {A = Result Suspects Refusal} (Ok a) (suspects_of tb s seen) → a.count ≤ 61
few_found tb s seen a e = let few : (answer_suspects (Ok a)).count ≤ 61 = rw e (few_suspects tb s seen) in few
