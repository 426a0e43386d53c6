-- Sets of tests, their weight and their order. The sentences are document 01's.
-- Assumes nothing.
use Rattle.std.specs.Prelude.{Bool, ◌⊎◌, ◌≡◌, ℕ, ◌*◌, ◌/◌, ◌%◌, ◌^◌, ◌<◌, eqb, ltb}
use Rattle.folds.specs.Fold.{total}

-- "A set of tests is given and returned as a 32-bit number whose bit t stands for test t."
unfoldable pub bit : ℕ → ℕ → ℕ
bit s t = s / 2 ^ t % 2

-- test t is in the set s
unfoldable pub has : ℕ → ℕ → Bool
has s t = eqb (bit s t) 1

-- some test is in both m and s
abbrev pub Shares : ℕ → ℕ → Type 0
Shares m s = (t : ℕ) × (bit m t ≡ 1) × (bit s t ≡ 1)

-- every test of s is one of the allowed ones
abbrev pub Within : (ℕ → Type 0) → ℕ → Type 0
Within allowed s = (t : ℕ) → bit s t ≡ 1 → allowed t

-- every test of s is below n: no bit is set from n on
unfoldable pub within : ℕ → ℕ → Bool
within s n = ltb s (2 ^ n)

-- what test t adds to the weight of s, where w gives each test its weight
unfoldable pub share : (ℕ → ℕ) → ℕ → ℕ → ℕ
share w s t = bit s t * w t

-- the weight of s: the sum over the 24 tests
abbrev pub weight : (ℕ → ℕ) → ℕ → ℕ
weight w s = total (share w s) 24

-- each test weighs 1
unfoldable pub one : ℕ → ℕ
one t = 1

-- how many tests s has
abbrev pub size : ℕ → ℕ
size s = weight one s

-- "Order of sets of equal size: the set that holds the lowest test number in which the two differ comes first."
abbrev pub Before : ℕ → ℕ → Type 0
Before s s' = (t : ℕ) × (bit s t ≡ 1) × (bit s' t ≡ 0) × ((u : ℕ) → u < t → bit s u ≡ bit s' u)

-- s is lighter; or as heavy, and the same set or an earlier one
abbrev pub Precedes : (ℕ → ℕ) → ℕ → ℕ → Type 0
Precedes w s s' = (weight w s < weight w s') ⊎ ((weight w s ≡ weight w s') × ((s ≡ s') ⊎ Before s s'))
