-- The witness sheet. The sentences are document 01's.
-- Assumes nothing.
use Rattle.std.specs.Prelude.{Bool, not, List, ℕ, ltb}
use Rattle.folds.specs.Fold.{pick, both, first, gather, joined}
use Rattle.sets.specs.Sets.{has}
use Rattle.table.specs.Table.{output_at, columns}
use Rattle.table.specs.declared.Table.{Table}
use Rattle.terms.specs.Columns.{agrees, lowest}

-- column b is in the set, and above column a
unfoldable pub above_in : ℕ → ℕ → ℕ → Bool
above_in set a b = both (ltb a b) (has set b)

module _ (out : ℕ → ℕ → ℕ) where
  -- test t is in the set s and separates the columns a and b
  unfoldable pub separates : ℕ → ℕ → ℕ → ℕ → Bool
  separates s a b t = both (has s t) (not (agrees out a b t))

  module _ (tests : ℕ) where
    -- the number of the lowest test of s that separates the columns a and b, and `tests` where none does
    abbrev pub lowest_test : ℕ → ℕ → ℕ → ℕ
    lowest_test s a b = first (separates s a b) tests

    -- "the lowest test of the set that separates them, or 255 where none does"
    unfoldable pub witness_of : ℕ → ℕ → ℕ → ℕ
    witness_of s a b = pick (ltb (lowest_test s a b) tests) (lowest_test s a b) 255

    -- column b is the lowest of its class, and above column a
    unfoldable pub above : ℕ → ℕ → Bool
    above a b = both (ltb a b) (lowest out tests b)

    -- the witnesses of column a with the lowest column of each class above a's, of the columns below n; a is the lowest of its own
    abbrev pub witnesses : ℕ → ℕ → ℕ → List ℕ
    witnesses s n a = gather (above a) (witness_of s a) n

    -- "one byte for each two classes, .. ordered by lower class and then by higher"
    abbrev pub sheet_under : ℕ → ℕ → List ℕ
    sheet_under s n = joined (lowest out tests) (witnesses s n) n

abbrev pub sheet_of : Table → ℕ → List ℕ
sheet_of tb s = sheet_under (output_at tb) tb.tests s (columns tb)
