-- Well-formed tables. The sentences are document 01's.
-- Assumes nothing.
use Rattle.std.specs.Prelude.{◌⊎◌, ◌≡◌, ℕ, ◌≤◌, ◌<◌, length, get_or}
use Rattle.table.specs.declared.Table.{Table}
use Rattle.table.specs.Table.{output_at, columns, line_of, stuck_of}

-- "A table is well formed when
pub record WellFormed (tb : Table) : Type 0 where
  -- its counts are within the sizes,
  pub tests_fit : tb.tests ≤ 24
  pub faults_fit : tb.faults ≤ 60
  -- its stuck values are 0 or 1,
  pub stuck_fit : (f : ℕ) → f < tb.faults → stuck_of tb f ≤ 1
  -- no two faults have the same line and value,
  pub distinct : (f g : ℕ) → g < f → f < tb.faults → line_of tb f ≡ line_of tb g → stuck_of tb f ≡ stuck_of tb g → ⊥
  -- and every unused cell and label is zero."
  pub cells_clear : (t c : ℕ) → t < 24 → c < 61 → (tb.tests ≤ t) ⊎ (columns tb ≤ c) → output_at tb t c ≡ 0
  pub labels_clear : (f : ℕ) → tb.faults ≤ f → f < 60 → (line_of tb f ≡ 0) × (stuck_of tb f ≡ 0)

-- What every value of the type has, which the lists of this logic do not say by themselves: the arrays' lengths, and bytes.
pub record OfType (tb : Table) : Type 0 where
  pub cells_long : length tb.cells ≡ 1464
  pub lines_long : length tb.lines ≡ 60
  pub stuck_long : length tb.stuck ≡ 60
  pub cells_bytes : (i : ℕ) → get_or tb.cells i 0 < 256
  pub lines_bytes : (f : ℕ) → line_of tb f < 256
  pub stuck_bytes : (f : ℕ) → stuck_of tb f < 256
