-- What `set_aside` and `essential` answer. The sentences are document 01's.
-- Assumes nothing.
use Rattle.std.specs.Prelude.{◌≡◌, ℕ, Result, Ok, Err}
use Rattle.sets.specs.Sets.{bit}
use Rattle.sets.specs.Collect.{set_of}
use Rattle.table.specs.Answers.{number_of}
use Rattle.table.specs.WellFormed.{WellFormed}
use Rattle.table.specs.declared.Refusal.{Refusal}
use Rattle.table.specs.declared.Goal.{Goal}
use Rattle.table.specs.declared.Goal.TheVariants.{Detect}
use Rattle.table.specs.declared.Table.{Table}
use Rattle.terms.specs.Terms.{TestOf, Aside}
use Rattle.cover.specs.Masks.{masks_of}
use Rattle.cover.specs.Kept.{kept, lone}

-- the tests that are kept for a goal
unfoldable pub kept_set : Table → Goal → ℕ
kept_set tb goal = set_of (kept (masks_of tb goal) tb.tests) tb.tests

-- the tests that alone, of those in `keep`, separate some fault from column 0
unfoldable pub lone_set : Table → ℕ → ℕ
lone_set tb keep = set_of (lone (masks_of tb Detect) keep) tb.tests

-- s holds the tests that have P, and no others
pub record Exactly (P : ℕ → Type 0) (s : ℕ) : Type 0 where
  pub inside : (t : ℕ) → bit s t ≡ 1 → P t
  pub outside : (t : ℕ) → bit s t ≡ 0 → P t → ⊥

-- the answer for a well-formed table is the set of the tests that have P; any other table gives 20
abbrev pub Gives : Table → (ℕ → Type 0) → Result ℕ Refusal → Type 0
Gives tb P (Ok s) = WellFormed tb × Exactly P s
Gives tb P (Err why) = (WellFormed tb → ⊥) × (number_of why ≡ 20)

-- a test of the table that is set aside for the goal
abbrev pub AsideTest : Table → Goal → ℕ → Type 0
AsideTest tb goal t = TestOf tb t × Aside tb goal t
