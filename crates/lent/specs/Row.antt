-- What a closure that gives a byte for each number below n gives.
-- Assumes nothing.
use Rattle.std.specs.Prelude.{◌≡◌, ℕ, ◌<◌}
use Rattle.std.specs.Fn.{Shared}

-- f may be called at each number below n
abbrev pub ValuedBelow : {F : Type 0} → Shared F (ℕ × Unit {0}) ℕ → F → ℕ → Type 0
ValuedBelow g f n = (i : ℕ) → i < n → g.pre f (i, tt)

-- at each number below n, f gives what h gives
abbrev pub Values : {F : Type 0} → Shared F (ℕ × Unit {0}) ℕ → F → (ℕ → ℕ) → ℕ → Type 0
Values g f h n = (i : ℕ) (v : ℕ) → i < n → g.post f (i, tt) v → v ≡ h i
