-- What is computed of outputs: which columns are alike, their classes, their signatures. `out t c` is the output of test t
-- in column c; a table's is `output_at tb`. The sentences are document 01's.
-- Assumes nothing.
use Rattle.std.specs.Prelude.{Bool, not, List, ℕ, eqb}
use Rattle.folds.specs.Fold.{every, count, first, gather}
use Rattle.sets.specs.Sets.{has}

module _ (out : ℕ → ℕ → ℕ) where
  -- test t gives the columns a and b one output
  unfoldable pub agrees : ℕ → ℕ → ℕ → Bool
  agrees a b t = eqb (out t a) (out t b)

  -- column c's output in test t
  unfoldable pub output_of : ℕ → ℕ → ℕ
  output_of c t = out t c

  module _ (tests : ℕ) where
    -- no test separates the columns a and b
    unfoldable pub alike : ℕ → ℕ → Bool
    alike a b = every (agrees a b) tests

    unfoldable pub apart : ℕ → ℕ → Bool
    apart a b = not (alike a b)

    -- column c is the lowest of its class: some test separates it from each lower column
    unfoldable pub lowest : ℕ → Bool
    lowest c = every (apart c) c

    -- the lowest column of c's class
    unfoldable pub lowest_of : ℕ → ℕ
    lowest_of c = first (alike c) c

    -- "Classes are numbered by their lowest column": how many classes have a lower lowest column
    unfoldable pub class_number : ℕ → ℕ
    class_number c = count lowest (lowest_of c)

    -- "The signature of a column under a set is its outputs in rising test number."
    abbrev pub outputs_under : ℕ → ℕ → List ℕ
    outputs_under s c = gather (has s) (output_of c) tests
