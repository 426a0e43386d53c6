-- The full adder's table is well formed, and each of its used cells is what the gates give. Both are computed over the whole table.
-- Assumes nothing.
use mathlib.Core.Bool.{Bool, true}
use mathlib.Core.Path.{◌≡◌, refl}
use Prim.Native.Nat.{ℕ, ◌<◌}
use borrow.Author.Tests.{eqb-true}
use lib.Dec.{eqb}
use Rattle.adder.specs.Adder.{adder_output, adder_table, line_label, no_labels, row_filled, rows_filled, stuck_label}
use Rattle.folds.specs.Fold.{always, every, joined, onto, single}
use Rattle.folds.proofs.Every.{every_at}
use Rattle.table.proofs.Tested.{formed}
use Rattle.table.specs.Table.{cell_at, output_at, place_of}
use Rattle.table.specs.Test.{cell_right, differ, fresh, label_right, row_right, well_formed}
use Rattle.table.specs.WellFormed.{WellFormed}

passes : well_formed adder_table ≡ true
unfolding well_formed label_right fresh differ row_right cell_right every cell_at place_of adder_table rows_filled row_filled adder_output line_label stuck_label no_labels onto joined single always
passes = refl

pub adder_formed : WellFormed adder_table
adder_formed = formed adder_table passes

right : ℕ → ℕ → Bool
right t c = eqb (output_at adder_table t c) (adder_output t c)

right_row : ℕ → Bool
right_row t = every (right t) 11

all_right : every right_row 8 ≡ true
unfolding right_row right every cell_at place_of adder_table rows_filled row_filled adder_output
all_right = refl

pub adder_cell : (t c : ℕ) → t < 8 → c < 11 → output_at adder_table t c ≡ adder_output t c
unfolding right_row right
adder_cell t c h k = eqb-true _ _ (every_at (right t) 11 c (every_at right_row 8 t all_right h) k)
