-- The call that gives one record after the other. The sentences are document 01's. Assumes nothing.
use mathlib.Core.Bool.{Bool, true, false, not}
use mathlib.Core.List.{List}
use mathlib.Core.Logic.{◌⊎◌, inl, inr}
use mathlib.Core.Path.{◌≡◌, refl}
use Prim.Native.Nat.{ℕ, zero, suc, ◌≤◌, ◌<◌}
use native.Mathlib.Omega.{arith}
use borrow.Author.Tests.{lt-ltb, le-ltb, ltb-true, not-true}
use lib.Dec.{ltb}
use lib.ListN.{length}
use Rattle.std.specs.Prelude.{Ok, Err, Some}
use Rattle.folds.specs.Fold.{pick}
use Rattle.folds.proofs.Bools.{clash}
use Rattle.table.specs.WellFormed.{OfType}
use Rattle.table.specs.declared.Refusal.TheVariants.{NotWellFormed}
use Rattle.book.specs.Given.{Reached, begun, read, SomeStart}
use Rattle.book.specs.Reading.{after, read_from, read_book}
use Rattle.book.specs.Sound.{sound_test, call_rule, record_at}
use Rattle.records.specs.Step.{start, refused_at, first_of, step_at}
use Rattle.records.specs.declared.Record.{Record}
use Rattle.records.specs.declared.SoFar.{SoFar}
use Rattle.records.specs.declared.Stepped.{Stepped}
use Rattle.records.proofs.Steps.{Steps, refuses, accepts, gives, steps}
use Rattle.book_laws.specs.Calls.{calls_from}
use Rattle.book_laws.specs.Records.{BytesAt}
use Rattle.book_laws.specs.Refuses.{Refuses}
use Rattle.book_laws.proofs.Good.{reached_good}
use Rattle.book_laws.proofs.Numbers.{call_refuses, refuses_call, step_number}
use Rattle.book_laws.proofs.Starts.{reached_sound, start_sound, sound_start}
use Rattle.book_laws.proofs.Records.{record_of, given_record, record_there}

module _ (book : List ℕ) (place : ℕ) (sofar : SoFar) where
  -- where the test holds and the place is in the book, the call is the step
  call_step : sound_test sofar ≡ true → place ≤ length book → record_at book place sofar ≡ step_at book place sofar
  unfolding record_at call_rule step_at first_of
  call_step h l = rw (h, le-ltb (length book) place l)

  -- ---- "A reading so far that no start of any book gives, or a place past the lent book's end, gives 20", and only those

  pub twenty_given : OfType sofar.table → (SomeStart sofar → ⊥) ⊎ (length book < place) → record_at book place sofar ≡ refused_at NotWellFormed place
  unfolding call_rule
  twenty_given o u = call_refuses book place sofar NotWellFormed (go (sound_test sofar) refl u)
    where
      go : (b : Bool) → sound_test sofar ≡ b → (SomeStart sofar → ⊥) ⊎ (length book < place) → Refuses NotWellFormed (call_rule book place sofar).checks
      go false h u = inl (rw h, refl)
      go true h (inl none) = absurd (none (sound_start sofar o h))
      go true h (inr l) = inr (rw h, inl (lt-ltb (length book) place l, refl))

  pub given_twenty : (record_at book place sofar).outcome ≡ Err NotWellFormed → (SomeStart sofar → ⊥) ⊎ (length book < place)
  unfolding call_rule
  given_twenty e = go (refuses_call book place sofar NotWellFormed e)
    where
      go : Refuses NotWellFormed (call_rule book place sofar).checks → (SomeStart sofar → ⊥) ⊎ (length book < place)
      go (inl (h, q)) = inl (λ s. clash (sound_test sofar) (start_sound sofar s) (not-true (sound_test sofar) h))
      go (inr (h, inl (l, q))) = inr (ltb-true (length book) place l)
      go (inr (h, inr (l, r))) = let n = step_number book place sofar NotWellFormed r in absurd (omega arith)

  -- ---- the records that it gives are the book's

  pub call_record : (r : Record) → (record_at book place sofar).outcome ≡ Ok (Some r) → BytesAt book place r (record_at book place sofar).place
  unfolding record_at call_rule step_at first_of
  call_record r e = go (sound_test sofar) (ltb (length book) place) e (record_there book place sofar r)
    where
      go : (a b : Bool) → (pick (not a) (refused_at NotWellFormed place) (pick b (refused_at NotWellFormed place) (step_at book place sofar))).outcome ≡ Ok (Some r)
          → ((step_at book place sofar).outcome ≡ Ok (Some r) → BytesAt book place r (step_at book place sofar).place)
          → BytesAt book place r (pick (not a) (refused_at NotWellFormed place) (pick b (refused_at NotWellFormed place) (step_at book place sofar))).place
      go false b e k = cc
      go true true e k = cc
      go true false e k = k e

-- ---- "from the book's start the answers are the same"

-- at a place that a start of the book has led to, the call is the step
pub reached_call : {book : List ℕ} {place : ℕ} {sofar : SoFar} → Reached book place sofar → record_at book place sofar ≡ step_at book place sofar
reached_call {book} {place} {sofar} x = call_step book place sofar (reached_sound x) (reached_good x).inside

-- and the calls go on as the reading does
calls_same : (n : ℕ) (book : List ℕ) (place : ℕ) (sofar : SoFar) → Reached book place sofar → calls_from n book place sofar ≡ read_from n book place sofar
calls_same zero book place sofar x = refl
calls_same (suc n) book place sofar x =
    rw (reached_call x)
    (go (steps book place sofar) refl (calls_same n book))
  where
    go : {s : Stepped} → Steps book place sofar s → step_at book place sofar ≡ s → ((p : ℕ) (q : SoFar) → Reached book p q → calls_from n book p q ≡ read_from n book p q)
        → after s.outcome s (calls_from n book s.place s.sofar) ≡ after s.outcome s (read_from n book s.place s.sofar)
    go (refuses why) e ih = refl
    go (accepts l u) e ih = refl
    go {s} (gives l u g) e ih = rw (given_record g) (ih s.place s.sofar (rw e at (read x (record_of g) (rw e (given_record g)))))

pub calls_read : (book : List ℕ) → calls_from (suc (length book)) book 0 start ≡ read_book book
unfolding read_book
calls_read book = calls_same (suc (length book)) book 0 start begun
