-- The promise of the exported call leaves one result. Assumes nothing.
use mathlib.Core.List.{List}
use mathlib.Core.Path.{◌≡◌, sym, ◌∙◌}
use Prim.Native.Nat.{ℕ}
use Rattle.std.specs.Prelude.{Result}
use Rattle.table.specs.declared.Refusal.{Refusal}
use Rattle.table.specs.declared.Suspects.{Suspects}
use Rattle.table.specs.declared.Table.{Table}
use Rattle.suspects.specs.Suspects.{suspects_of}

pub suspects_of_pins : (tb : Table) (s : ℕ) (seen : List ℕ) (r₁ r₂ : Result Suspects Refusal) → r₁ ≡ suspects_of tb s seen → r₂ ≡ suspects_of tb s seen → r₁ ≡ r₂
suspects_of_pins tb s seen r₁ r₂ a b = a ∙ sym b
