-- Masks in another order.
-- Assumes nothing.
use Rattle.std.specs.Prelude.{List, ◌≡◌, ℕ, length}
use Rattle.cover.specs.Masks.{Hits}

-- as many masks, and the same sets hit them all
pub record Reordered (masks masks' : List ℕ) : Type 0 where
  pub long : length masks' ≡ length masks
  pub hits : (s : ℕ) → Hits masks s → Hits masks' s
  pub hit : (s : ℕ) → Hits masks' s → Hits masks s
