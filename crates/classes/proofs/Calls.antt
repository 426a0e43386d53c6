-- The answers of the calls, one law for each `return`. Assumes nothing.
use mathlib.Core.Bool.{true}
use mathlib.Core.Logic.{⊎_elim}
use mathlib.Core.Path.{◌≡◌, sym, ap, ◌∙◌}
use Prim.Native.Nat.{ℕ, ◌+◌, ◌≤◌, ◌<◌}
use native.Mathlib.Omega.{arith}
use Rattle.std.specs.Prelude.{Ok}
use Rattle.folds.specs.Fold.{Tells}
use Rattle.folds.proofs.Below.{lt_or_ge}
use Rattle.folds.proofs.Bools.{clash, tells_by, tells_yes, tells_no}
use Rattle.sets.specs.Sets.{has}
use Rattle.sets.specs.Collect.{set_of}
use Rattle.sets.proofs.Collect.{set_tells, set_high}
use Rattle.table.specs.Table.{output_at}
use Rattle.table.specs.Test.{well_formed}
use Rattle.table.specs.declared.Table.{Table}
use Rattle.table.specs.declared.fitting.Fitting.{Fitting}
use Rattle.terms_laws.proofs.Classes.{alike_tells}
use Rattle.classes.specs.Undetectable.{undetected, UndetectableFault, UndetectableIn}

-- the faults that the code finds are the undetectable ones
undetected_tells : (tb : Table) (f : ℕ) → Tells (has (set_of (undetected (output_at tb) tb.tests) tb.faults) f) (UndetectableFault tb f)
unfolding undetected
undetected_tells tb f = ⊎_elim
    (λ (w : f < tb.faults).
    let e = set_tells (undetected (output_at tb) tb.tests) tb.faults f w in
    tells_by _ (λ h. (w, tells_yes _ (alike_tells tb 0 (f + 1)) (sym e ∙ h))) (λ h k. tells_no _ (alike_tells tb 0 (f + 1)) (sym e ∙ h) k.1))
    (λ (w : tb.faults ≤ f).
    let e = set_high (undetected (output_at tb) tb.tests) tb.faults f w in
    tells_by _ (λ h. clash _ h e) (λ h k. omega (arith, k.0)))
    (lt_or_ge f tb.faults)

pub undetectable_ok : (tb : Table) (t : Fitting) (s : ℕ) → (t.table ≡ tb) × (well_formed tb ≡ true) → s ≡ set_of (undetected (output_at t.table) t.table.tests) t.table.faults → UndetectableIn tb (Ok s)
undetectable_ok tb t s q e = rw (← q.0) (record { number = rw (ap well_formed q.0 ∙ q.1); holds = λ h f. rw e (undetected_tells t.table f) })
