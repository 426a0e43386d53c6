-- Where a step gives a record, the book's bytes at that place are the record's, and the next place is behind them.
-- Assumes nothing.
use mathlib.Core.List.{List, [], ◌∷◌, ◌++◌}
use mathlib.Core.Path.{◌≡◌, refl, ap, ◌∙◌}
use Prim.Native.Nat.{ℕ, suc, ◌+◌, ◌≤◌, ◌<◌}
use native.Mathlib.Omega.{arith}
use borrow.Author.Tests.{ltb-false}
use lib.ListN.{length, get_or, take, drop}
use lib.Seq.{drop-cons, take-add}
use Rattle.std.specs.Prelude.{Ok, Some}
use Rattle.records.specs.Step.{record_bytes, test_rule, fault_rule, response_rule, end_rule, step_at}
use Rattle.records.specs.declared.Record.{Record}
use Rattle.records.specs.declared.Record.TheVariants.{Test, Fault, Response, End}
use Rattle.records.specs.declared.SoFar.{SoFar}
use Rattle.records.specs.declared.Stepped.{Stepped}
use Rattle.book_laws.specs.Records.{BytesAt}
use Rattle.records.proofs.Steps.{Gives, test, fault, response, ending, Steps, refuses, accepts, gives, steps}

-- the bytes from a place on, one by one
pub cons_at : (book : List ℕ) (place : ℕ) → place < length book → drop place book ≡ get_or book place 0 ∷ drop (place + 1) book
cons_at book place l = let e : place + 1 ≡ suc place = omega arith in rw e (drop-cons book place 0 l)

-- the record that was given
abbrev pub record_of : {book : List ℕ} {place : ℕ} {sofar : SoFar} {s : Stepped} → Gives book place sofar s → Record
record_of {book} {place} (test h k) = Test (get_or book (place + 1) 0)
record_of {book} {place} (fault h k) = Fault (get_or book (place + 1) 0) (get_or book (place + 2) 0)
record_of {book} {place} (response h k) = Response (get_or book (place + 1) 0) (get_or book (place + 2) 0) (get_or book (place + 3) 0)
record_of {book} {place} (ending h k) = End (get_or book (place + 1) 0) (get_or book (place + 2) 0)

module _ (book : List ℕ) (place : ℕ) where
  at₂ : place + 2 ≤ length book → take 2 (drop place book) ≡ get_or book place 0 ∷ get_or book (place + 1) 0 ∷ []
  at₂ l = rw (cons_at book place (omega arith), cons_at book (place + 1) (omega arith))

  at₃ : place + 3 ≤ length book → take 3 (drop place book) ≡ get_or book place 0 ∷ get_or book (place + 1) 0 ∷ get_or book (place + 2) 0 ∷ []
  at₃ l =
      let q : place + 1 + 1 ≡ place + 2 = omega arith in
      rw (cons_at book place (omega arith), cons_at book (place + 1) (omega arith), q, cons_at book (place + 2) (omega arith))

  at₄ : place + 4 ≤ length book → take 4 (drop place book) ≡ get_or book place 0 ∷ get_or book (place + 1) 0 ∷ get_or book (place + 2) 0 ∷ get_or book (place + 3) 0 ∷ []
  at₄ l =
      let q : place + 1 + 1 ≡ place + 2 = omega arith in
      let r : place + 2 + 1 ≡ place + 3 = omega arith in
      rw (cons_at book place (omega arith), cons_at book (place + 1) (omega arith), q, cons_at book (place + 2) (omega arith), r, cons_at book (place + 3) (omega arith))

pub given_bytes : {book : List ℕ} {place : ℕ} {sofar : SoFar} {s : Stepped} (g : Gives book place sofar s) → BytesAt book place (record_of g) s.place
unfolding test_rule fault_rule response_rule end_rule
given_bytes {book} {place} (test h k) =
    let l : place + 2 ≤ length book = omega (arith, ltb-false) in
    record { bytes = at₂ book place l ∙ rw h refl; further = refl; inside = l }
given_bytes {book} {place} (fault h k) =
    let l : place + 3 ≤ length book = omega (arith, ltb-false) in
    record { bytes = at₃ book place l ∙ rw h refl; further = refl; inside = l }
given_bytes {book} {place} (response h k) =
    let l : place + 4 ≤ length book = omega (arith, ltb-false) in
    record { bytes = at₄ book place l ∙ rw h refl; further = refl; inside = l }
given_bytes {book} {place} (ending h k) =
    let l : place + 3 ≤ length book = omega (arith, ltb-false) in
    record { bytes = at₃ book place l ∙ rw h refl; further = refl; inside = l }

pub given_record : {book : List ℕ} {place : ℕ} {sofar : SoFar} {s : Stepped} (g : Gives book place sofar s) → s.outcome ≡ Ok (Some (record_of g))
unfolding test_rule fault_rule response_rule end_rule
given_record (test h k) = refl
given_record (fault h k) = refl
given_record (response h k) = refl
given_record (ending h k) = refl

-- what has been read up to the next place
pub taken_on : (book : List ℕ) (place : ℕ) (r : Record) (next : ℕ) → BytesAt book place r next → take next book ≡ take place book ++ record_bytes r
taken_on book place r next b = rw b.further (take-add place (length (record_bytes r)) book ∙ ap (λ (x : List ℕ). take place book ++ x) b.bytes)

-- the theorem, of a step
pub record_there : (book : List ℕ) (place : ℕ) (sofar : SoFar) (r : Record) → (step_at book place sofar).outcome ≡ Ok (Some r) → BytesAt book place r (step_at book place sofar).place
record_there book place sofar r e = go (steps book place sofar) e
  where
    go : {s : Stepped} → Steps book place sofar s → s.outcome ≡ Ok (Some r) → BytesAt book place r s.place
    go (refuses why) e = cc
    go (accepts h u) e = cc
    go {s} (gives h u g) e =
        let q : record_of g ≡ r = cc (given_record g) in
        rw q at (given_bytes g)
