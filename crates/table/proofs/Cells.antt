-- Where the cells lie: each in the table, no two at one place. Assumes nothing.
use mathlib.Core.Path.{◌≡◌}
use Prim.Native.Nat.{ℕ, ◌<◌}
use native.Mathlib.Omega.{arith}
use Rattle.table.specs.Table.{place_of}

pub place_fits : (t c : ℕ) → t < 24 → c < 61 → place_of t c < 1464
unfolding place_of
place_fits t c h k = omega arith

-- what `place` gives lies in the table
pub place_below : (t c r : ℕ) → r ≡ place_of t c → t < 24 → c < 61 → r < 1464
place_below t c r e h k = omega (arith, place_fits t c h k)

pub place_test : (t c u d : ℕ) → t < 24 → c < 61 → u < 24 → d < 61 → place_of t c ≡ place_of u d → t ≡ u
unfolding place_of
place_test t c u d h k l m e = omega arith

pub place_column : (t c u d : ℕ) → t < 24 → c < 61 → u < 24 → d < 61 → place_of t c ≡ place_of u d → c ≡ d
unfolding place_of
place_column t c u d h k l m e = omega arith
