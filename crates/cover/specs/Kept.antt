-- Tests weighed by the masks that they are in. The sentences are document 01's.
-- Assumes nothing.
use Rattle.std.specs.Prelude.{Bool, not, List, ℕ, ◌^◌, eqb, ltb, length, get_or}
use Rattle.std.specs.Int.Bits.{bit_and}
use Rattle.folds.specs.Fold.{both, either, every, some}
use Rattle.sets.specs.Sets.{has}

-- the mask has test u where it has test t
unfoldable pub follows : ℕ → ℕ → ℕ → Bool
follows u t mask = either (not (has mask t)) (has mask u)

-- test t is the mask's only kept test
unfoldable pub mask_is : ℕ → ℕ → ℕ → Bool
mask_is kept t mask = eqb (bit_and mask kept) (2 ^ t)

module _ (masks : List ℕ) where
  unfoldable pub has_at : ℕ → ℕ → Bool
  has_at t k = has (get_or masks k 0) t

  unfoldable pub follows_at : ℕ → ℕ → ℕ → Bool
  follows_at u t k = follows u t (get_or masks k 0)

  unfoldable pub is_at : ℕ → ℕ → ℕ → Bool
  is_at kept t k = mask_is kept t (get_or masks k 0)

  -- some mask has test t
  unfoldable pub used : ℕ → Bool
  used t = some (has_at t) (length masks)

  -- test u is in every mask that test t is in
  unfoldable pub covers : ℕ → ℕ → Bool
  covers u t = every (follows_at u t) (length masks)

  -- test u outdoes test t: "a lower-numbered test separates every goal pair that it does"
  unfoldable pub outdone_by : ℕ → ℕ → Bool
  outdone_by t u = both (ltb u t) (covers u t)

  -- some test outdoes test t
  unfoldable pub outdone : ℕ → ℕ → Bool
  outdone tests t = some (outdone_by t) tests

  -- no test outdoes test t, and it separates some goal pair: it is not set aside
  unfoldable pub kept : ℕ → ℕ → Bool
  kept tests t = both (not (outdone tests t)) (used t)

  -- test t is some mask's only kept test
  unfoldable pub lone : ℕ → ℕ → Bool
  lone kept_set t = some (is_at kept_set t) (length masks)
