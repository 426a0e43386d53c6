-- The masks of pairs of columns. `out t c` is the output of test t in column c. The sentences are document 01's.
-- Assumes nothing.
use Rattle.std.specs.Prelude.{Bool, not, List, ℕ, ◌<◌, eqb, ltb, length, get_or}
use Rattle.folds.specs.Fold.{pick, both, joined, gather, always}
use Rattle.sets.specs.Sets.{Shares}
use Rattle.sets.specs.Collect.{set_of}
use Rattle.table.specs.Table.{output_at, columns}
use Rattle.table.specs.declared.Goal.{Goal}
use Rattle.table.specs.declared.Goal.TheVariants.{Detect, Diagnose}
use Rattle.table.specs.declared.Table.{Table}
use Rattle.terms.specs.Columns.{agrees}

-- s shares a test with every mask
abbrev pub Hits : List ℕ → ℕ → Type 0
Hits masks s = (k : ℕ) → k < length masks → Shares (get_or masks k 0) s

-- "Goal pairs. Detect: column 0 with each fault. Diagnose: every two columns." The lower column stands first.
unfoldable pub goal_pair : Goal → ℕ → ℕ → Bool
goal_pair Detect a b = both (ltb a b) (eqb a 0)
goal_pair Diagnose a b = ltb a b

module _ (out : ℕ → ℕ → ℕ) where
  -- "A test separates two columns when their outputs differ."
  unfoldable pub differs : ℕ → ℕ → ℕ → Bool
  differs a b t = not (agrees out a b t)

  module _ (tests : ℕ) where
    -- the tests that separate the columns a and b
    unfoldable pub mask_of : ℕ → ℕ → ℕ
    mask_of a b = set_of (differs a b) tests

    module _ (goal : Goal) where
      -- the same for a goal pair; none for any other pair
      unfoldable pub goal_mask : ℕ → ℕ → ℕ
      goal_mask a b = pick (goal_pair goal a b) (mask_of a b) 0

      -- "Only those count which some test of the table separates."
      unfoldable pub counts : ℕ → ℕ → Bool
      counts a b = not (eqb (goal_mask a b) 0)

      -- the masks of the pairs with the lower column a that count
      unfoldable pub mask_row : ℕ → ℕ → List ℕ
      mask_row columns a = gather (counts a) (goal_mask a) columns

-- the masks of a goal's pairs that count, in rising order of the pairs, lower column first
unfoldable pub masks_of : Table → Goal → List ℕ
masks_of tb goal = joined always (mask_row (output_at tb) tb.tests goal (columns tb)) (columns tb)
