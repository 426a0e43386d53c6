-- The set of the numbers that have p.
-- Assumes nothing.
use Rattle.std.specs.Prelude.{◌≡◌, Bool, ℕ, zero, suc, ◌+◌, ◌^◌, ◌<◌}
use Rattle.std.specs.Fn.{Shared}
use Rattle.folds.specs.Fold.{pick}

-- the set s with test t, where it is to be in
unfoldable pub with_test : ℕ → ℕ → Bool → ℕ
with_test s t inside = s + pick inside (2 ^ t) 0

-- the set of the numbers below n that have p
unfoldable pub set_of : (ℕ → Bool) → ℕ → ℕ
set_of p zero = 0
set_of p (suc n) = with_test (set_of p n) n (p n)

-- f may be called at each number below n
abbrev pub CallableBelow : {F R : Type 0} → Shared F (ℕ × Unit {0}) R → F → ℕ → Type 0
CallableBelow g f n = (i : ℕ) → i < n → g.pre f (i, tt)

-- at each number below n, f answers what q gives
abbrev pub Computes : {F R : Type 0} → Shared F (ℕ × Unit {0}) R → F → (ℕ → R) → ℕ → Type 0
Computes {F} {R} g f q n = (i : ℕ) (r : R) → i < n → g.post f (i, tt) r → r ≡ q i
