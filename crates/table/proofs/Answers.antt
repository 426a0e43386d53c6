-- Number and value say which answer it is. Assumes nothing.
use mathlib.Core.Path.{◌≡◌, refl, sym, ◌∙◌}
use Prim.Native.Nat.{ℕ, ◌<◌}
use native.Mathlib.Omega.{arith}
use lib.Dec.{eqb}
use Rattle.folds.specs.Fold.{pick}
use Rattle.table.specs.declared.Refusal.{Refusal}
use Rattle.table.specs.declared.Refusal.TheVariants.{UnknownKind, BodyCut, NoEnd, OutOfPlace, TooMany, StuckValue, SameLabel, NotInBook, NotAfter, RepeatsCorrect, WrongCounts, BytesFollow, NotWellFormed, UnknownTest, CapTooHigh, NoneWithinCap, BufferShort, NotOneEach}
use Rattle.std.specs.Prelude.{Result, Ok, Err}
use Rattle.table.specs.Answers.{number_of, answer_number, answer_value}

-- a refusal has a number of one or two digits, and not 0
pub number_bounds : (why : Refusal) → (0 < number_of why) × (number_of why < 100)
number_bounds UnknownKind = (omega arith, omega arith)
number_bounds BodyCut = (omega arith, omega arith)
number_bounds NoEnd = (omega arith, omega arith)
number_bounds OutOfPlace = (omega arith, omega arith)
number_bounds TooMany = (omega arith, omega arith)
number_bounds StuckValue = (omega arith, omega arith)
number_bounds SameLabel = (omega arith, omega arith)
number_bounds NotInBook = (omega arith, omega arith)
number_bounds NotAfter = (omega arith, omega arith)
number_bounds RepeatsCorrect = (omega arith, omega arith)
number_bounds WrongCounts = (omega arith, omega arith)
number_bounds BytesFollow = (omega arith, omega arith)
number_bounds NotWellFormed = (omega arith, omega arith)
number_bounds UnknownTest = (omega arith, omega arith)
number_bounds CapTooHigh = (omega arith, omega arith)
number_bounds NoneWithinCap = (omega arith, omega arith)
number_bounds BufferShort = (omega arith, omega arith)
number_bounds NotOneEach = (omega arith, omega arith)

-- the refusal of a number
refusal_of : ℕ → Refusal
refusal_of n =
    pick (eqb n 1) UnknownKind
    (pick (eqb n 2) BodyCut
    (pick (eqb n 3) NoEnd
    (pick (eqb n 4) OutOfPlace
    (pick (eqb n 5) TooMany
    (pick (eqb n 6) StuckValue
    (pick (eqb n 7) SameLabel
    (pick (eqb n 8) NotInBook
    (pick (eqb n 9) NotAfter
    (pick (eqb n 10) RepeatsCorrect
    (pick (eqb n 11) WrongCounts
    (pick (eqb n 12) BytesFollow
    (pick (eqb n 20) NotWellFormed
    (pick (eqb n 21) UnknownTest
    (pick (eqb n 22) CapTooHigh
    (pick (eqb n 23) NoneWithinCap
    (pick (eqb n 24) BufferShort NotOneEach))))))))))))))))

-- ---- an answer of any type that is accepted with a value or refused

module _ {A : Type 0} (accepted : ℕ → A) (refused : Refusal → A) where
  -- the answer of a number and a value
  answer_of : ℕ → ℕ → A
  answer_of n v = pick (eqb n 0) (accepted v) (refused (refusal_of n))

  -- no two refusals have one number, and none has 0
  refused_back : (why : Refusal) → answer_of (number_of why) 0 ≡ refused why
  unfolding answer_of refusal_of
  refused_back UnknownKind = refl
  refused_back BodyCut = refl
  refused_back NoEnd = refl
  refused_back OutOfPlace = refl
  refused_back TooMany = refl
  refused_back StuckValue = refl
  refused_back SameLabel = refl
  refused_back NotInBook = refl
  refused_back NotAfter = refl
  refused_back RepeatsCorrect = refl
  refused_back WrongCounts = refl
  refused_back BytesFollow = refl
  refused_back NotWellFormed = refl
  refused_back UnknownTest = refl
  refused_back CapTooHigh = refl
  refused_back NoneWithinCap = refl
  refused_back BufferShort = refl
  refused_back NotOneEach = refl

  accepted_back : (v : ℕ) → answer_of 0 v ≡ accepted v
  unfolding answer_of
  accepted_back v = refl

  -- where number and value give the answer back, two answers that agree in both are one
  told_apart : (number value : A → ℕ) → ((a : A) → answer_of (number a) (value a) ≡ a) → (a b : A) → number a ≡ number b → value a ≡ value b → a ≡ b
  told_apart number value back a b h k = sym (back a) ∙ (λ i. answer_of (h i) (k i)) ∙ back b

pub number_one : (a b : Refusal) → number_of a ≡ number_of b → a ≡ b
number_one a b e = told_apart {A = Refusal} (λ v. UnknownKind) (λ why. why) number_of (λ why. 0) (refused_back (λ v. UnknownKind) (λ why. why)) a b e refl

pub answer_one : (a b : Result ℕ Refusal) → answer_number a ≡ answer_number b → answer_value a ≡ answer_value b → a ≡ b
answer_one = told_apart Ok Err answer_number answer_value back
  where
    back : (a : Result ℕ Refusal) → answer_of Ok Err (answer_number a) (answer_value a) ≡ a
    back (Ok value) = accepted_back Ok Err value
    back (Err why) = refused_back Ok Err why
