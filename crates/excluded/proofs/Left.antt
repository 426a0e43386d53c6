-- What a promise leaves of an answer: of one answer, and of a call that writes to a lent buffer. Assumes nothing.
use mathlib.Core.List.{List}
use mathlib.Core.Path.{◌≡◌, refl, sym, ap, ◌∙◌}
use Prim.Native.Nat.{ℕ, ◌≤◌}
use native.Mathlib.Omega.{arith}
use lib.ListN.{length, take}
use Rattle.folds.proofs.Onto.{onto_front}
use Rattle.lent.specs.Lent.{WritesOnto}
use Rattle.lent.proofs.Lent.{room_enough}
use Rattle.table.specs.Answers.{answer_number, answer_value}
use Rattle.table.specs.declared.Refusal.{Refusal}
use Rattle.std.specs.Prelude.{Result, Ok, Err}
use Rattle.table.proofs.Answers.{answer_one}

-- where a is the one answer, and b is what it says, no answer says another
pub no_other : {A B : Type 0} (says : A → B) (a : A) (b : B) → says a ≡ b → (other : B) → (other ≡ b → ⊥) → (r : A) → r ≡ a → says r ≡ other → ⊥
no_other says a b h other differs r e q = differs (sym q ∙ ap says e ∙ h)

pub refused_differs : {A : Type 0} (why : Refusal) (value : A) → ◌≡◌ {A = Result A Refusal} (Err why) (Ok value) → ⊥
refused_differs why value e = let z : ◌≡◌ {A = ℕ} 0 1 = cc in omega arith

-- a call that nothing refuses, whose answer is xs, on a buffer d that has room for it
module _ (earlier : ℕ) (answer xs : List ℕ) (unrefused : earlier ≡ 0) (is : answer ≡ xs) (d : List ℕ) (room : length xs ≤ length d) where
  module _ (r : Result ℕ Refusal) (e : List ℕ) (w : WritesOnto earlier answer d r e) where
    accepted : answer_number r ≡ 0
    accepted = w.number ∙ rw (unrefused, is) (room_enough xs d room)

    all_bytes : r ≡ Ok (length xs)
    all_bytes = answer_one r (Ok (length xs)) accepted (w.count ∙ rw (accepted, is))

    front : take (length xs) e ≡ xs
    front = rw (w.buffer, accepted, is) (onto_front xs d)

  -- it leaves the buffer as it was only where the answer stood there already
  pub writes_something : (take (length xs) d ≡ xs → ⊥) → (r : Result ℕ Refusal) → WritesOnto earlier answer d r d → ⊥
  writes_something new r w = new (front r d w)

  -- it gives no other count than the answer's length
  pub no_other_length : (n : ℕ) → (n ≡ length xs → ⊥) → (r : Result ℕ Refusal) (e : List ℕ) → WritesOnto earlier answer d r e → answer_value r ≡ n → ⊥
  no_other_length n differs r e w = no_other answer_value (Ok (length xs)) (length xs) refl n differs r (all_bytes r e w)
