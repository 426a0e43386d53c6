-- Some start of a book gives a reading so far exactly when the code's test of it holds. Assumes nothing.
use mathlib.Core.Bool.{true}
use mathlib.Core.List.{List}
use mathlib.Core.Path.{◌≡◌}
use Prim.Native.Nat.{ℕ, ◌≤◌}
use native.Mathlib.Omega.{arith}
use Rattle.folds.proofs.Bools.{both_true, both_left, both_right}
use Rattle.table.specs.Test.{well_formed}
use Rattle.table.specs.WellFormed.{WellFormed, OfType}
use Rattle.table.specs.declared.Table.{Table}
use Rattle.table.proofs.Tested.{formed, tested}
use Rattle.book.specs.BookOf.{book_of}
use Rattle.book.specs.Given.{Reached, SomeStart}
use Rattle.book.specs.Sound.{sound_test}
use Rattle.records.specs.Step.{rank_of}
use Rattle.records.specs.declared.SoFar.{SoFar}
use Rattle.records.specs.declared.Stage.{Stage}
use Rattle.records.specs.declared.Stage.TheVariants.{Tests, Faults, Responses, Ended}
use Rattle.book_laws.proofs.Accepted.{past_end}
use Rattle.book_laws.proofs.Along.{so, Along}
use Rattle.book_laws.proofs.Bytes.{book_bytes}
use Rattle.book_laws.proofs.Good.{reached_good}
use Rattle.book_laws.proofs.Grown.{long_of}
use Rattle.book_laws.proofs.Round.{run}
use Rattle.book_laws.proofs.Stages.{Fits, fits_tested, tested_fits, one_stage}

-- ---- what a start of a book gives passes the test

pub reached_sound : {book : List ℕ} {place : ℕ} {sofar : SoFar} → Reached book place sofar → sound_test sofar ≡ true
unfolding sound_test
reached_sound {book} {place} {sofar} x =
    let g = reached_good x in
    both_true _ _ (tested sofar.table g.formed) (fits_tested sofar.stage sofar.table g.fits)

pub start_sound : (sofar : SoFar) → SomeStart sofar → sound_test sofar ≡ true
start_sound sofar (book, place, b, x) = reached_sound x

-- ---- what passes the test is given by a start of its own table's book

module _ (tb : Table) (o : OfType tb) (w : WellFormed tb) where
  before_end : (s : Stage) → rank_of s ≤ 2 → Fits s tb → (k : ℕ) × Reached (book_of tb) k (so tb s)
  before_end s h f = go (run tb w (long_of o))
    where
      go : {rest : List ℕ} → Along (book_of tb) rest (λ s u. (u ≡ tb) × (rank_of s ≤ 2)) → (k : ℕ) × Reached (book_of tb) k (so tb s)
      go a =
          let x : Reached (book_of tb) a.place (so tb a.stage) = rw a.holds.0 at a.reached in
          (a.place, rw (one_stage a.stage s tb w.tests_fit a.holds.1 h (reached_good x).fits f) at x)

  by_stage : (s : Stage) → Fits s tb → (k : ℕ) × Reached (book_of tb) k (so tb s)
  by_stage Tests f = before_end Tests (omega arith) f
  by_stage Faults f = before_end Faults (omega arith) f
  by_stage (Responses g t) f = before_end (Responses g t) (omega arith) f
  by_stage Ended f = let a = past_end tb w (long_of o) in (a.place, rw (a.holds.0, a.holds.1) at a.reached)

pub sound_start : (sofar : SoFar) → OfType sofar.table → sound_test sofar ≡ true → SomeStart sofar
unfolding sound_test
sound_start sofar o h =
    let w = formed sofar.table (both_left _ _ h) in
    let f = tested_fits sofar.stage sofar.table (both_right (well_formed sofar.table) _ h) in
    let x = by_stage sofar.table o w sofar.stage f in
    (book_of sofar.table, x.0, book_bytes sofar.table w o, x.1)
