-- The calls that lay the class numbers, the suspects and the marks over a lent buffer. Assumes nothing.
use mathlib.Core.Bool.{Bool, true, false}
use mathlib.Core.List.{List}
use mathlib.Core.Path.{◌≡◌, refl}
use Prim.Native.Nat.{ℕ, ◌+◌, ◌≤◌}
use native.Mathlib.Omega.{arith}
use lib.ListN.{take}
use Rattle.std.specs.Prelude.{Result, Ok, Err}
use Rattle.folds.specs.Fold.{pick, listed, total}
use Rattle.sets.specs.Sets.{bit}
use Rattle.table.specs.Answers.{answer_number, answer_value}
use Rattle.table.specs.Table.{columns}
use Rattle.table.specs.Test.{well_formed}
use Rattle.table.specs.WellFormed.{WellFormed}
use Rattle.table.specs.declared.Classes.{Classes}
use Rattle.table.specs.declared.Refusal.{Refusal}
use Rattle.table.specs.declared.Refusal.TheVariants.{NotWellFormed}
use Rattle.table.specs.declared.Suspects.{Suspects}
use Rattle.table.specs.declared.Table.{Table}
use Rattle.table.proofs.Tested.{formed}
use Rattle.classes.specs.Classes.{classes_of, classes_in}
use Rattle.classes.specs.Undetectable.{UndetectableIn}
use Rattle.suspects.specs.Suspects.{suspects_of}
use Rattle.terms_laws.proofs.Classes.{few_classes}
use Rattle.flat.specs.Flat.{lent_table}
use Rattle.flat.specs.Packed.{packed}
use Rattle.flat.specs.Writes.{Lays}
use Rattle.flat.proofs.Room.{call_refusal, lays_call}
use Rattle.tockbronze.specs.Calls.{ClassesWritten, ClassesCall, SuspectsWritten, SuspectsCall, MarksWritten, UndetectableCall}

-- ---- suspects

module _ (bytes : List ℕ) (tb : Table) (lent : tb ≡ lent_table bytes) (s : ℕ) (seen d : List ℕ) where
  pub suspects_laid : (a : Suspects) → ◌≡◌ {A = Result Suspects Refusal} (Ok a) (suspects_of tb s seen) → (w : Result ℕ Refusal) (k n r : ℕ) (e : List ℕ)
      → Lays n (take k a.columns) d w e → r ≡ packed (answer_number w) (answer_value w) → k ≡ a.count → n ≡ a.count → SuspectsCall bytes s seen d r e
  suspects_laid a ea w k n r e l er ek en =
      let v : SuspectsWritten (Ok a) d r e = rw (ek, en) at (lays_call n (take k a.columns) d w r e l er) in
      rw (← lent, ← ea) v

  pub suspects_refused : (why : Refusal) → ◌≡◌ {A = Result Suspects Refusal} (Err why) (suspects_of tb s seen) → (r : ℕ) → r ≡ packed (answer_number {A = ℕ} (Err why)) (answer_value (Err why)) → SuspectsCall bytes s seen d r d
  suspects_refused why ew r er =
      let v : SuspectsWritten (Err why) d r d = call_refusal why _ _ d r er in
      rw (← lent, ← ew) v

-- ---- classes

module _ (tb : Table) (a : Classes) (ea : ◌≡◌ {A = Result Classes Refusal} (Ok a) (classes_of tb)) where
  classified : WellFormed tb × (a ≡ classes_in tb)
  unfolding classes_of
  classified = go (well_formed tb) refl ea
    where
      go : (b : Bool) → well_formed tb ≡ b → ◌≡◌ {A = Result Classes Refusal} (Ok a) (pick b (Ok (classes_in tb)) (Err NotWellFormed)) → WellFormed tb × (a ≡ classes_in tb)
      go true q e = (formed tb q, cc)
      go false q e = cc

  pub few_faults : tb.faults ≤ 60
  few_faults = classified.0.faults_fit

  pub few_counted : a.count ≤ 61
  few_counted = rw classified.1 (few_classes tb classified.0)

module _ (bytes : List ℕ) (tb : Table) (lent : tb ≡ lent_table bytes) (d : List ℕ) where
  pub classes_laid : (a : Classes) → ◌≡◌ {A = Result Classes Refusal} (Ok a) (classes_of tb) → (w : Result ℕ Refusal) (r : ℕ) (e : List ℕ)
      → Lays a.count (take (tb.faults + 1) a.of) d w e → r ≡ packed (answer_number w) (answer_value w) → ClassesCall bytes d r e
  classes_laid a ea w r e l er =
      let v : ClassesWritten (columns tb) (Ok a) d r e = lays_call a.count (take (columns tb) a.of) d w r e l er in
      rw (← lent, ← ea) v

  pub classes_refused : (why : Refusal) → ◌≡◌ {A = Result Classes Refusal} (Err why) (classes_of tb) → (r : ℕ) → r ≡ packed (answer_number {A = ℕ} (Err why)) (answer_value (Err why)) → ClassesCall bytes d r d
  classes_refused why ew r er =
      let v : ClassesWritten (columns tb) (Err why) d r d = call_refusal why _ _ d r er in
      rw (← lent, ← ew) v

  -- ---- marks

  pub marks_laid : (set : ℕ) → UndetectableIn tb (Ok set) → (w : Result ℕ Refusal) (r : ℕ) (e : List ℕ)
      → Lays (total (bit set) tb.faults) (listed (bit set) tb.faults) d w e → r ≡ packed (answer_number w) (answer_value w) → UndetectableCall bytes d r e
  marks_laid set u w r e l er =
      let v : MarksWritten tb (Ok set) d r e = lays_call _ _ d w r e l er in
      record { answer = Ok set; given = rw (← lent) u; writes = rw (← lent) v }

  pub marks_refused : (why : Refusal) → UndetectableIn tb (Err why) → (r : ℕ) → r ≡ packed (answer_number {A = ℕ} (Err why)) (answer_value (Err why)) → UndetectableCall bytes d r d
  marks_refused why u r er =
      let v : MarksWritten tb (Err why) d r d = call_refusal why _ _ d r er in
      record { answer = Err why; given = rw (← lent) u; writes = rw (← lent) v }

-- a table whose undetectable faults are given is well formed
pub given_formed : (tb : Table) (set : ℕ) → UndetectableIn tb (Ok set) → WellFormed tb
given_formed tb set u = go (well_formed tb) refl u.number
  where
    go : (b : Bool) → well_formed tb ≡ b → ◌≡◌ {A = ℕ} 0 (pick b 0 20) → WellFormed tb
    go true q e = formed tb q
    go false q e = absurd (omega arith)
