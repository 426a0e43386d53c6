-- What a node of the search is given and what it answers, where w gives each test its weight. It speaks of all subsets.
-- Assumes nothing.
use Rattle.std.specs.Prelude.{List, Option, Some, None, ◌⊎◌, ◌≡◌, ℕ, ◌+◌, ◌%◌, ◌^◌, ◌≤◌, ◌<◌, length, get_or}
use Rattle.std.specs.Int.Bits.{bit_and, bit_or}
use Rattle.sets.specs.Sets.{bit, weight, Precedes, Shares}
use Rattle.cover.specs.Masks.{Hits}
use Rattle.choice.specs.declared.search.Weighed.{Weighed}

-- each mask from `from` on that is below n shares something with s
abbrev pub HitTo : List ℕ → ℕ → ℕ → ℕ → Type 0
HitTo masks from s n = (k : ℕ) → from ≤ k → k < n → bit_and (get_or masks k 0) s ≡ 0 → ⊥

-- the first mask from `from` on that shares nothing with s is at r
pub record UnhitAt (masks : List ℕ) (from s r : ℕ) : Type 0 where
  pub low : from ≤ r
  pub high : r < length masks
  pub passed : HitTo masks from s r
  pub stopped : bit_and (get_or masks r 0) s ≡ 0

-- the place of that mask; or there is none
abbrev pub FirstUnhit : List ℕ → ℕ → ℕ → Option ℕ → Type 0
FirstUnhit masks from s (Some r) = UnhitAt masks from s r
FirstUnhit masks from s None = HitTo masks from s (length masks)

-- the limit once `first` is found: its weight, so that only a lighter set takes its place
abbrev pub limit_after : Option Weighed → ℕ → ℕ
limit_after (Some first) limit = first.weight
limit_after None limit = limit

-- `later` where it is a set, else `first`
abbrev pub or_else : Option Weighed → Option Weighed → Option Weighed
or_else (Some later) first = Some later
or_else None first = first

-- r is the kept tests from t on
pub record RestOf (keep t r : ℕ) : Type 0 where
  pub low : (i : ℕ) → i < t → bit r i ≡ 0
  pub high : (i : ℕ) → t ≤ i → bit r i ≡ bit keep i

-- nothing changes; or the mask shares nothing with the taken tests, its tests that are left are taken, and 1 more is needed, as
-- no test weighs less
abbrev pub OneMore : ℕ → ℕ → ℕ → ℕ → ℕ → ℕ → Type 0
OneMore taken n mask rest taken' n' =
    ((taken' ≡ taken) × (n' ≡ n))
    ⊎ ((bit_and mask taken ≡ 0) × (taken' ≡ bit_or taken (bit_and mask rest)) × (n' ≡ n + 1))

-- ---- the nodes

-- the tests below t are decided: `chosen` are in, and weigh `used`; the masks below `from` are hit
pub record Node (w : ℕ → ℕ) (masks : List ℕ) (from t chosen used : ℕ) : Type 0 where
  pub depth : t ≤ 24
  pub decided : chosen < 2 ^ t
  pub weighed : used ≡ weight w chosen
  pub start : from ≤ length masks
  pub hit : (k : ℕ) → k < from → Shares (get_or masks k 0) chosen

-- s is open at the node: it agrees with what is decided, takes kept tests only from t on, hits, and is below the limit
pub record Open (w : ℕ → ℕ) (masks : List ℕ) (keep t chosen limit s : ℕ) : Type 0 where
  pub below : s < 2 ^ 24
  pub agrees : s % 2 ^ t ≡ chosen
  pub keeps : (i : ℕ) → t ≤ i → bit s i ≡ 1 → bit keep i ≡ 1
  pub hits : Hits masks s
  pub light : weight w s < limit

-- every open set weighs r more than what is chosen
abbrev pub NeedsMore : (ℕ → ℕ) → List ℕ → ℕ → ℕ → ℕ → ℕ → Type 0
NeedsMore w masks keep t chosen r = (limit s : ℕ) → Open w masks keep t chosen limit s → weight w chosen + r ≤ weight w s

-- the first open set, with its weight; or nothing is open
abbrev pub Best : (ℕ → ℕ) → List ℕ → ℕ → ℕ → ℕ → ℕ → Option Weighed → Type 0
Best w masks keep t chosen limit (Some f) =
    Open w masks keep t chosen limit f.set × (f.weight ≡ weight w f.set) × ((s : ℕ) → Open w masks keep t chosen limit s → Precedes w f.set s)
Best w masks keep t chosen limit None = (s' : ℕ) → Open w masks keep t chosen limit s' → ⊥
