-- The promise of the exported call leaves one result and one buffer. Assumes nothing.
use mathlib.Core.List.{List}
use mathlib.Core.Path.{◌≡◌}
use Prim.Native.Nat.{ℕ}
use Rattle.std.specs.Prelude.{Result}
use Rattle.lent.specs.Lent.{set_number, WritesOnto}
use Rattle.lent.proofs.Lent.{writes_pins}
use Rattle.table.specs.declared.Table.{Table}
use Rattle.table.specs.declared.Refusal.{Refusal}
use Rattle.dictionary.specs.Dictionary.{dictionary_of}

pub dictionary_pins : (tb : Table) (s : ℕ) (d : List ℕ) (r₁ r₂ : Result ℕ Refusal) (e₁ e₂ : List ℕ) → WritesOnto (set_number tb s) (dictionary_of tb s) d r₁ e₁
    → WritesOnto (set_number tb s) (dictionary_of tb s) d r₂ e₂ → (r₁ ≡ r₂) × (e₁ ≡ e₂)
dictionary_pins tb s d r₁ r₂ e₁ e₂ a b = writes_pins (set_number tb s) (dictionary_of tb s) d r₁ r₂ e₁ e₂ a b
