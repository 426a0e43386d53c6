-- The rows of masks, one behind the other. Assumes nothing.
use mathlib.Core.List.{List, [], ◌++◌}
use mathlib.Core.Path.{◌≡◌, refl, sym, ap, ◌∙◌}
use Prim.Native.Nat.{ℕ, zero, suc, ◌+◌, ◌-◌, ◌≤◌, ◌<◌}
use native.Mathlib.Numerals.{add-one}
use native.Mathlib.Omega.{arith}
use lib.ListN.{length, length-append}
use Rattle.folds.specs.Fold.{total, joined, always}
use Rattle.folds.proofs.Total.{total_more, total_grows}
use Rattle.folds.proofs.Gather.{always_true}
use Rattle.folds.proofs.Joined.{joined_none, joined_yes}
use Rattle.table.specs.declared.Goal.{Goal}
use Rattle.cover.specs.Masks.{mask_row}
use Rattle.cover.proofs.Masks.{row_few}

-- at most 60 - i masks in row i, 1,830 in all
most : ℕ → ℕ
most i = 60 - i

all_most : total most 61 ≡ 1830
unfolding total most
all_most = refl

module _ (out : ℕ → ℕ → ℕ) (tests : ℕ) (goal : Goal) (columns : ℕ) where
  -- the masks of the rows below a
  unfoldable pub rows_to : ℕ → List ℕ
  rows_to a = joined always (mask_row out tests goal columns) a

  pub rows_none : rows_to 0 ≡ []
  unfolding rows_to
  rows_none = joined_none always (mask_row out tests goal columns)

  pub rows_more : (a : ℕ) → rows_to (a + 1) ≡ rows_to a ++ mask_row out tests goal columns a
  unfolding rows_to
  rows_more a = joined_yes always (mask_row out tests goal columns) a (always_true a)

  rows_few : (a : ℕ) → columns ≤ 61 → length (rows_to a) ≤ total most a
  unfolding most
  rows_few zero fit = rw rows_none (omega arith)
  rows_few (suc a) fit =
      let e : length (rows_to (suc a)) ≡ length (rows_to a) + length (mask_row out tests goal columns a) =
      ap (λ (k : ℕ). length (rows_to k)) (sym (add-one a)) ∙ ap length (rows_more a) ∙ length-append (rows_to a) (mask_row out tests goal columns a) in
      omega (arith, rows_few a, row_few out tests goal a columns, total_more most a)

  -- a further row fits
  pub rows_room : (a : ℕ) → columns ≤ 61 → a < columns → length (rows_to a) + (columns - (a + 1)) ≤ 1830
  unfolding most
  rows_room a fit l = omega (arith, rows_few a, total_more most a, total_grows most (suc a) 61 (omega arith), all_most)
