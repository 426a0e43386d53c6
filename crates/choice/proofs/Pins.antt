-- The promise of `choose` leaves one result, and for every input there is one. Assumes nothing.
use mathlib.Core.Bool.{Bool, true, false}
use mathlib.Core.Logic.{inl, inr, ⊎_elim}
use mathlib.Core.Path.{◌≡◌, refl, sym, ap, ◌∙◌}
use Prim.Native.Nat.{ℕ, ◌≤◌, ◌<◌}
use native.Mathlib.Omega.{arith}
use Rattle.std.specs.Prelude.{Option, Some, Result, Ok, Err}
use Rattle.folds.proofs.Below.{lt_or_ge}
use Rattle.folds.proofs.Bools.{clash}
use Rattle.sets.specs.Sets.{size}
use Rattle.table.specs.Answers.{number_of}
use Rattle.table.specs.Test.{well_formed}
use Rattle.table.specs.declared.Goal.{Goal}
use Rattle.table.specs.declared.Refusal.{Refusal}
use Rattle.table.specs.declared.Refusal.TheVariants.{NotWellFormed, CapTooHigh}
use Rattle.table.specs.declared.Table.{Table}
use Rattle.table.proofs.Answers.{number_one}
use Rattle.table.proofs.Tested.{formed, tested}
use Rattle.terms.specs.Terms.{TestOf}
use Rattle.terms_laws.proofs.Choice.{choice_one, choice_exists}
use Rattle.choice.specs.declared.search.Weighed.{Weighed}
use Rattle.choice.specs.Answer.{within_cap, ChoiceIs}
use Rattle.choice.proofs.Root.{capped}

module _ (tb : Table) (goal : Goal) (cap : ℕ) where
  -- a choice and a refusal do not both meet the promise
  pub apart : (s : ℕ) (why : Refusal) → ChoiceIs tb goal cap (Ok s) → ChoiceIs tb goal cap (Err why) → ⊥
  apart s why (w, l, c, n) (inl (e, ill)) = ill w
  apart s why (w, l, c, n) (inr (inl (e, w', m))) = omega arith
  apart s why (w, l, c, n) (inr (inr (e, w', m, none))) = omega (arith, none s c.within c.reaches)

  -- one number for each refusal
  same : (why₁ why₂ : Refusal) → ChoiceIs tb goal cap (Err why₁) → ChoiceIs tb goal cap (Err why₂) → number_of why₁ ≡ number_of why₂
  same why₁ why₂ (inl (e, ill)) (inl (e', ill')) = e ∙ sym e'
  same why₁ why₂ (inl (e, ill)) (inr (inl (e', w, m))) = absurd (ill w)
  same why₁ why₂ (inl (e, ill)) (inr (inr (e', w, m, none))) = absurd (ill w)
  same why₁ why₂ (inr (inl (e, w, m))) (inl (e', ill)) = absurd (ill w)
  same why₁ why₂ (inr (inl (e, w, m))) (inr (inl (e', w', m'))) = e ∙ sym e'
  same why₁ why₂ (inr (inl (e, w, m))) (inr (inr (e', w', m', none))) = absurd (omega arith)
  same why₁ why₂ (inr (inr (e, w, m, none))) (inl (e', ill)) = absurd (ill w)
  same why₁ why₂ (inr (inr (e, w, m, none))) (inr (inl (e', w', m'))) = absurd (omega arith)
  same why₁ why₂ (inr (inr (e, w, m, none))) (inr (inr (e', w', m', none'))) = e ∙ sym e'

  pub choose_pins : (r₁ r₂ : Result ℕ Refusal) → ChoiceIs tb goal cap r₁ → ChoiceIs tb goal cap r₂ → r₁ ≡ r₂
  choose_pins (Ok s₁) (Ok s₂) a b = ap Ok (choice_one tb goal (TestOf tb) s₁ s₂ a.2 b.2)
  choose_pins (Ok s₁) (Err why₂) a b = absurd (apart s₁ why₂ a b)
  choose_pins (Err why₁) (Ok s₂) a b = absurd (apart s₂ why₁ b a)
  choose_pins (Err why₁) (Err why₂) a b = ap Err (number_one why₁ why₂ (same why₁ why₂ a b))

  pub choose_answers : (r : Result ℕ Refusal) × ChoiceIs tb goal cap r
  choose_answers = go (well_formed tb) refl
    where
      found : ℕ → Option Weighed
      found s = Some (record { set = s; weight = size s })

      go : (b : Bool) → well_formed tb ≡ b → (r : Result ℕ Refusal) × ChoiceIs tb goal cap r
      go false e = (Err NotWellFormed, inl (refl, λ w. clash _ (tested tb w) e))
      go true e = ⊎_elim
          (λ (m : 24 < cap). (Err CapTooHigh, inr (inl (refl, formed tb e, m))))
          (λ (m : cap ≤ 24). let c = choice_exists tb goal in (within_cap (found c.0) cap, capped tb (formed tb e) goal cap m (found c.0) (c.1, refl)))
          (lt_or_ge 24 cap)
