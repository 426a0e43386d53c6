-- The promise of `full_adder` leaves one table. Assumes nothing.
use mathlib.Core.Path.{◌≡◌, sym, ◌∙◌}
use Rattle.adder.specs.Adder.{adder_table}
use Rattle.table.specs.declared.Table.{Table}

pub full_adder_pins : (r₁ r₂ : Table) → r₁ ≡ adder_table → r₂ ≡ adder_table → r₁ ≡ r₂
full_adder_pins r₁ r₂ a b = a ∙ sym b
