-- A fold up to an end that is known by an equation. Assumes nothing.
use mathlib.Core.Path.{◌≡◌, ap, ◌∙◌}
use Prim.Native.Nat.{ℕ}

pub at_end : {A : Type 0} (f : ℕ → A) (n m : ℕ) (r : A) → n ≡ m → r ≡ f n → r ≡ f m
at_end f n m r e h = h ∙ ap f e
