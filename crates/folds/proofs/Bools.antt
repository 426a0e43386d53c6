-- Laws of tests. Assumes nothing.
use mathlib.Core.Path.{◌≡◌, refl}
use mathlib.Core.Bool.{Bool, true, false, not}
use mathlib.Core.Logic.{◌⊎◌, inl, inr}
use Prim.Native.Nat.{ℕ}
use native.Mathlib.Omega.{arith}
use borrow.Author.Tests.{not-true}
use Rattle.folds.specs.Fold.{pick, both, either, Tells}

-- a test does not hold and fail
pub clash : {A : Type 0} (b : Bool) → b ≡ true → b ≡ false → A
clash b p q = let z : ◌≡◌ {A = ℕ} 0 1 = cc in absurd (omega arith)

pub pick_ap : {A B : Type 0} (f : A → B) (b : Bool) (x y : A) → f (pick b x y) ≡ pick b (f x) (f y)
pick_ap f true x y = refl
pick_ap f false x y = refl

pub both_true : (a b : Bool) → a ≡ true → b ≡ true → both a b ≡ true
both_true a b p q = rw (p, q)

pub both_left : (a b : Bool) → both a b ≡ true → a ≡ true
both_left true b h = refl
both_left false b h = h

pub both_right : (a b : Bool) → both a b ≡ true → b ≡ true
both_right true b h = h
both_right false b h = clash false h refl

pub both_yes : (b : Bool) → b ≡ both b true
both_yes true = refl
both_yes false = refl

pub both_false : (a : Bool) → both a false ≡ false
both_false true = refl
both_false false = refl

-- of two tests that both should hold, one fails
pub both_cases : (a b : Bool) → both a b ≡ false → (a ≡ false) ⊎ (b ≡ false)
both_cases true b h = inr h
both_cases false b h = inl refl

-- not both of two tests hold
pub both_no : (a b : Bool) → not (both a b) ≡ true → a ≡ true → b ≡ true → ⊥
both_no a b h p q = clash (both a b) (both_true a b p q) (not-true (both a b) h)

pub no_both : (a b : Bool) → (a ≡ true → b ≡ true → ⊥) → not (both a b) ≡ true
no_both true true h = absurd (h refl refl)
no_both true false h = refl
no_both false b h = refl

pub either_left : (a b : Bool) → a ≡ true → either a b ≡ true
either_left a b p = rw p

pub either_right : (a b : Bool) → b ≡ true → either a b ≡ true
either_right true b p = refl
either_right false b p = p

pub either_cases : (a b : Bool) → either a b ≡ true → (a ≡ true) ⊎ (b ≡ true)
either_cases true b h = inl refl
either_cases false b h = inr h

-- where the first of two tests fails, the second holds
pub either_second : (a b : Bool) → either a b ≡ true → a ≡ false → b ≡ true
either_second true b h k = clash true refl k
either_second false b h k = h

-- ---- what a test tells

pub tells_yes : {P : Type 0} (r : Bool) → Tells r P → r ≡ true → P
tells_yes true t e = t
tells_yes false t e = clash false e refl

pub tells_no : {P : Type 0} (r : Bool) → Tells r P → r ≡ false → P → ⊥
tells_no true t e = clash true refl e
tells_no false t e = t

pub told_true : {P : Type 0} (r : Bool) → Tells r P → P → r ≡ true
told_true true t p = refl
told_true false t p = absurd (t p)

pub tells_by : {P : Type 0} (r : Bool) → (r ≡ true → P) → (r ≡ false → P → ⊥) → Tells r P
tells_by true f g = f refl
tells_by false f g = g refl

-- two answers to one question are the same
pub tells_pins : (P : Type 0) (r₁ r₂ : Bool) → Tells r₁ P → Tells r₂ P → r₁ ≡ r₂
tells_pins P true true a b = refl
tells_pins P true false a b = absurd (b a)
tells_pins P false true a b = absurd (a b)
tells_pins P false false a b = refl
