-- A list of checks that is tried and then put at its place says what it says at the place. Assumes nothing.
use mathlib.Core.Bool.{Bool, true, false}
use mathlib.Core.List.{List, [], ◌∷◌}
use mathlib.Core.Path.{◌≡◌, refl, sym, ap, ◌∙◌}
use Prim.Native.Nat.{ℕ}
use Rattle.std.specs.Prelude.{Result, Ok, Err}
use Rattle.table.specs.declared.Refusal.{Refusal}
use Rattle.folds.specs.Fold.{pick}
use Rattle.records.specs.declared.Stepped.{Stepped}
use Rattle.records.specs.Step.{Check, refused_at, first_of, checked}

-- what is given, or a refusal at the place
abbrev pub put_at : ℕ → Result Stepped Refusal → Stepped
put_at place (Ok s) = s
put_at place (Err why) = refused_at why place

put_pick : (place : ℕ) (b : Bool) (x y : Result Stepped Refusal) → put_at place (pick b x y) ≡ pick b (put_at place x) (put_at place y)
put_pick place true x y = refl
put_pick place false x y = refl

pub put_checked : (place : ℕ) (ks : List Check) (gives : Stepped) → put_at place (checked ks gives) ≡ first_of ks place gives
unfolding checked first_of
put_checked place [] gives = refl
put_checked place (k ∷ ks) gives = rw (put_pick place k.holds (Err k.why) (checked ks gives), put_checked place ks gives)

module _ (place : ℕ) (ks : List Check) (gives : Stepped) where
  pub steps_past : (s : Stepped) → checked ks gives ≡ Ok s → s ≡ first_of ks place gives
  steps_past s o = ap (put_at place) (sym o) ∙ put_checked place ks gives

  pub steps_refused : (why : Refusal) (here : ℕ) → here ≡ place → checked ks gives ≡ Err why → refused_at why here ≡ first_of ks place gives
  steps_refused why here e o = rw e (ap (put_at place) (sym o) ∙ put_checked place ks gives)
