-- The promises of `set_aside` and `essential` leave one result. Assumes nothing.
use mathlib.Core.Path.{◌≡◌, sym, ap, ◌∙◌}
use mathlib.Core.Logic.{⊎_elim}
use Prim.Native.Nat.{ℕ, ◌^◌, ◌<◌}
use Rattle.std.specs.Prelude.{Result, Ok, Err}
use Rattle.sets.specs.Sets.{bit}
use Rattle.sets.proofs.Bits.{bit_cases, bits_equal, below_of_bits}
use Rattle.table.specs.declared.Refusal.{Refusal}
use Rattle.table.specs.declared.Goal.{Goal}
use Rattle.table.specs.declared.Table.{Table}
use Rattle.table.proofs.Answers.{number_one}
use Rattle.terms.specs.Terms.{TestOf, Essential}
use Rattle.cover.specs.Answer.{Exactly, Gives, AsideTest}

module _ (tb : Table) (P : ℕ → Type 0) (test : (t : ℕ) → P t → TestOf tb t) where
  exactly_one : (s₁ s₂ : ℕ) → Exactly P s₁ → Exactly P s₂ → s₁ ≡ s₂
  exactly_one s₁ s₂ a b = bits_equal tb.tests s₁ s₂ (small s₁ a) (small s₂ b) (λ t l. same t)
    where
      small : (s : ℕ) → Exactly P s → s < 2 ^ tb.tests
      small s e = below_of_bits tb.tests s (λ t h. test t (e.inside t h))

      same : (t : ℕ) → bit s₁ t ≡ bit s₂ t
      same t = ⊎_elim
          (λ p. ⊎_elim (λ q. p ∙ sym q) (λ q. absurd (a.outside t p (b.inside t q))) (bit_cases s₂ t))
          (λ p. ⊎_elim (λ q. absurd (b.outside t q (a.inside t p))) (λ q. p ∙ sym q) (bit_cases s₂ t))
          (bit_cases s₁ t)

  gives_one : (r₁ r₂ : Result ℕ Refusal) → Gives tb P r₁ → Gives tb P r₂ → r₁ ≡ r₂
  gives_one (Ok s₁) (Ok s₂) a b = ap Ok (exactly_one s₁ s₂ a.1 b.1)
  gives_one (Ok s₁) (Err why₂) a b = absurd (b.0 a.0)
  gives_one (Err why₁) (Ok s₂) a b = absurd (a.0 b.0)
  gives_one (Err why₁) (Err why₂) a b = ap Err (number_one why₁ why₂ (a.1 ∙ sym b.1))

pub set_aside_pins : (tb : Table) (goal : Goal) (r₁ r₂ : Result ℕ Refusal) → Gives tb (AsideTest tb goal) r₁ → Gives tb (AsideTest tb goal) r₂ → r₁ ≡ r₂
set_aside_pins tb goal r₁ r₂ a b = gives_one tb (AsideTest tb goal) (λ t w. w.0) r₁ r₂ a b

pub essential_pins : (tb : Table) (goal : Goal) (r₁ r₂ : Result ℕ Refusal) → Gives tb (Essential tb goal) r₁ → Gives tb (Essential tb goal) r₂ → r₁ ≡ r₂
essential_pins tb goal r₁ r₂ a b = gives_one tb (Essential tb goal) (λ t w. w.0.0) r₁ r₂ a b
