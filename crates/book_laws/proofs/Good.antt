-- What every start of a book keeps: the table is well formed, the stage fits it, and the bytes read are those of the
-- table's book. Assumes nothing.
use mathlib.Core.Bool.{true, false}
use mathlib.Core.List.{List, [], ◌++◌}
use mathlib.Core.Logic.{inr, ⊎_elim}
use mathlib.Core.Path.{◌≡◌, refl, sym, ap, ◌∙◌}
use Prim.Native.Nat.{ℕ, ◌+◌, ◌≤◌, ◌<◌}
use native.Mathlib.Omega.{arith}
use borrow.Author.Tests.{ltb-false, leb-false, eqb-true, eqb-false, not-false}
use lib.Dec.{eqb}
use lib.ListN.{length, get_or, take, length-take, length-append}
use Rattle.std.specs.Prelude.{Ok, Some}
use Rattle.folds.specs.Fold.{always}
use Rattle.folds.proofs.Below.{below_cases}
use Rattle.folds.proofs.Joined.{joined_none}
use Rattle.table.specs.Table.{empty_table, output_at}
use Rattle.table.specs.WellFormed.{WellFormed, OfType}
use Rattle.table.specs.declared.Table.{Table}
use Rattle.table.proofs.Stored.{cell_here, cell_there}
use Rattle.table.proofs.Empty.{empty_formed, empty_typed}
use Rattle.book.specs.BookOf.{test_bytes, fault_bytes, responses_of, book_of}
use Rattle.book.specs.Given.{Bytes, Reached, begun, read}
use Rattle.grow.specs.Grow.{with_fault, with_response}
use Rattle.book.specs.Sound.{order_of}
use Rattle.records.specs.Step.{start, record_bytes, rank_of, test_rule, fault_rule, response_rule, end_rule}
use Rattle.records.specs.declared.Record.{Record}
use Rattle.records.specs.declared.SoFar.{SoFar}
use Rattle.records.specs.declared.Stage.{Stage}
use Rattle.records.specs.declared.Stage.TheVariants.{Tests, Faults, Responses, Ended}
use Rattle.records.specs.declared.Stepped.{Stepped}
use Rattle.records.proofs.Steps.{Gives, test, fault, response, ending, Steps, refuses, accepts, gives, steps}
use Rattle.book_laws.proofs.Grown.{Long, long_of, filled_here, filled_there, test_formed, fault_formed, response_formed, test_long, fault_long, response_long, test_typed, fault_typed, response_typed}
use Rattle.book_laws.proofs.Stages.{Correct, Fits, no_fault, no_response, correct_on}
use Rattle.book_laws.proofs.Body.{tests_of, faults_of, wrong_of, body_of, book_body, body_most, body_test, body_fault, body_response}
use Rattle.book_laws.proofs.Records.{record_of, given_bytes, taken_on}

-- the bytes of what has been read
abbrev pub bytes_read : Stage → Table → List ℕ
bytes_read Tests tb = body_of tb
bytes_read Faults tb = body_of tb
bytes_read (Responses f t) tb = body_of tb
bytes_read Ended tb = book_of tb

pub record Good (book : List ℕ) (place : ℕ) (sofar : SoFar) : Type 0 where
  pub formed : WellFormed sofar.table
  pub long : Long sofar.table
  pub typed : Bytes book → OfType sofar.table
  pub fits : Fits sofar.stage sofar.table
  pub taken : take place book ≡ bytes_read sofar.stage sofar.table
  pub inside : place ≤ length book

empty_body : [] ≡ body_of empty_table
unfolding body_of tests_of faults_of wrong_of empty_table
empty_body = rw (joined_none always (test_bytes empty_table), joined_none always (fault_bytes empty_table), joined_none always (responses_of empty_table))

pub start_good : (book : List ℕ) → Good book 0 start
unfolding empty_table
start_good book = record {
  formed = empty_formed;
  long = long_of empty_typed;
  typed = λ _. empty_typed;
  fits = refl;
  taken = empty_body;
  inside = omega arith;
}

-- ---- the stage after a fault, and after a response

fault_correct_lem : (tb : Table) (l v : ℕ) → WellFormed tb → Long tb → tb.faults < 60 → Correct tb 0 → Correct (with_fault tb l v) 0
fault_correct_lem tb l v w n h c t f a b d =
    let few = w.tests_fit in
    filled_there tb.cells (tb.faults + 1) tb.tests t 0 (omega arith) few (omega arith) (omega arith) (inr (λ e. omega arith))
    ∙ ⊎_elim
    (λ (m : f < tb.faults). c t f a m (omega arith) ∙ sym (filled_there tb.cells (tb.faults + 1) tb.tests t (f + 1) (omega arith) few (omega arith) (omega arith) (inr (λ e. omega arith))))
    (λ (e : f ≡ tb.faults). rw e (sym (filled_here tb.cells (tb.faults + 1) tb.tests t n.cells (omega arith) few a)))
    (below_cases f tb.faults (omega arith))

response_fits : (tb : Table) (t f x : ℕ) → WellFormed tb → Long tb → t < tb.tests → f < tb.faults → (output_at tb t 0 ≡ x → ⊥) → Correct tb (order_of f t) → Fits (Responses f t) (with_response tb t f x)
response_fits tb t f x w n h k ne c =
    let few = w.tests_fit in
    let fews = w.faults_fit in
    let healthy : (u : ℕ) → u < tb.tests → output_at (with_response tb t f x) u 0 ≡ output_at tb u 0 = λ u m. cell_there tb.cells t (f + 1) x u 0 (omega arith) (omega arith) (omega arith) (omega arith) (λ e g. omega arith) in
    let given : output_at (with_response tb t f x) t (f + 1) ≡ x = cell_here tb.cells t (f + 1) x n.cells (omega arith) (omega arith) in (
      h,
      k,
      (λ e. ne (sym (healthy t h) ∙ e ∙ given)),
      λ u g a b d. healthy u a ∙ c u g a b (omega arith) ∙ sym (cell_there tb.cells t (f + 1) x u (g + 1) (omega arith) (omega arith) (omega arith) (omega arith) (λ e q. omega arith)),
    )

not_ended : (stage : Stage) (tb : Table) → eqb (rank_of stage) 3 ≡ false → bytes_read stage tb ≡ body_of tb
not_ended Tests tb u = refl
not_ended Faults tb u = refl
not_ended (Responses f t) tb u = refl
not_ended Ended tb u = absurd (eqb-false 3 3 u refl)

pub ended : (stage : Stage) (tb : Table) → eqb (rank_of stage) 3 ≡ true → bytes_read stage tb ≡ book_of tb
ended Tests tb u = absurd (omega (arith, eqb-true 0 3 u))
ended Faults tb u = absurd (omega (arith, eqb-true 1 3 u))
ended (Responses f t) tb u = absurd (omega (arith, eqb-true 2 3 u))
ended Ended tb u = refl

-- ---- a step

module _ {book : List ℕ} {place : ℕ} {sofar : SoFar} (g : Good book place sofar) (u : eqb (rank_of sofar.stage) 3 ≡ false) where
  abbrev tb : Table
  tb = sofar.table

  abbrev byte : ℕ → ℕ
  byte i = get_or book (place + i) 0

  -- the bytes up to the next place
  grown : {s : Stepped} (k : Gives book place sofar s) → take s.place book ≡ body_of tb ++ record_bytes (record_of k)
  grown {s} k = taken_on book place (record_of k) s.place (given_bytes k) ∙ ap (λ (x : List ℕ). x ++ record_bytes (record_of k)) (g.taken ∙ not_ended sofar.stage tb u)

  pub good_step : {s : Stepped} → Gives book place sofar s → Good book s.place s.sofar
  unfolding test_rule fault_rule response_rule end_rule
  good_step {s} (test h k) =
      let z = no_fault sofar.stage tb g.fits k.1.0 in
      let few : tb.tests < 24 = omega (arith, leb-false) in
      record {
        formed = test_formed tb g.formed (byte 1) few;
        long = test_long (byte 1) g.long;
        typed = λ b. test_typed (byte 1) (b (place + 1)) (g.typed b);
        fits = z;
        taken = grown (test h k) ∙ sym (body_test tb g.long (byte 1) few z);
        inside = omega (arith, ltb-false);
      }
  good_step {s} (fault h k) =
      let c = no_response sofar.stage tb g.fits k.1.0 in
      let few : tb.faults < 60 = omega (arith, leb-false) in
      let d = fault_correct_lem tb (byte 1) (byte 2) g.formed g.long few c in
      record {
        formed = fault_formed tb g.formed g.long (byte 1) (byte 2) few (omega (arith, ltb-false)) (not-false _ k.1.1.1.1.0);
        long = fault_long (byte 1) (byte 2) g.long;
        typed = λ b. fault_typed (byte 1) (byte 2) (b (place + 1)) (b (place + 2)) (g.typed b);
        fits = (omega arith, d);
        taken = grown (fault h k) ∙ sym (body_fault tb g.long g.formed (byte 1) (byte 2) few c d);
        inside = omega (arith, ltb-false);
      }
  good_step {s} (response h k) =
      let t : byte 1 < tb.tests = omega (arith, leb-false) in
      let f : byte 2 < tb.faults = omega (arith, leb-false) in
      let ne = eqb-false _ _ k.1.1.1.1.0 in
      let c = correct_on sofar.stage tb (byte 2) (byte 1) g.formed.tests_fit g.fits u k.1.1.1.0 in
      let d = response_fits tb (byte 1) (byte 2) (byte 3) g.formed g.long t f ne c in
      record {
        formed = response_formed tb g.formed (byte 1) (byte 2) (byte 3) t f;
        long = response_long (byte 1) (byte 2) (byte 3) g.long;
        typed = λ b. response_typed (byte 1) (byte 2) (byte 3) (b (place + 3)) (g.typed b);
        fits = d;
        taken = grown (response h k) ∙ sym (body_response tb g.long g.formed (byte 1) (byte 2) (byte 3) t f c d.3 ne);
        inside = omega (arith, ltb-false);
      }
  good_step {s} (ending h k) =
      let t = eqb-true (byte 1) tb.tests (not-false (eqb (byte 1) tb.tests) k.1.0) in
      let f = eqb-true (byte 2) tb.faults (not-false (eqb (byte 2) tb.faults) k.1.1.0) in
      record {
        formed = g.formed;
        long = g.long;
        typed = g.typed;
        fits = tt;
        taken = grown (ending h k) ∙ rw (t, f) (sym (book_body tb));
        inside = omega (arith, ltb-false);
      }

-- ---- places

pub open_place : {book : List ℕ} {place : ℕ} {sofar : SoFar} → Good book place sofar → eqb (rank_of sofar.stage) 3 ≡ false → place ≤ 5988
open_place {book} {place} {sofar} g u =
    let w = g.formed in
    let e : length (take place book) ≡ length (body_of sofar.table) = ap length (g.taken ∙ not_ended sofar.stage sofar.table u) in
    omega (arith, e, length-take place book, body_most sofar.table w.tests_fit w.faults_fit, g.inside)

pub book_most : (tb : Table) → WellFormed tb → length (book_of tb) ≤ 5991
book_most tb w = rw (book_body tb) (simp length-append (omega (arith, body_most tb w.tests_fit w.faults_fit)))

pub any_place : {book : List ℕ} {place : ℕ} {sofar : SoFar} → Good book place sofar → place ≤ 5991
any_place {book} {place} {sofar} g = go sofar.stage g.taken
  where
    body : take place book ≡ body_of sofar.table → place ≤ 5991
    body e = omega (arith, ap length e, length-take place book, body_most sofar.table g.formed.tests_fit g.formed.faults_fit, g.inside)

    go : (stage : Stage) → take place book ≡ bytes_read stage sofar.table → place ≤ 5991
    go Tests e = body e
    go Faults e = body e
    go (Responses f t) e = body e
    go Ended e = omega (arith, ap length e, length-take place book, book_most sofar.table g.formed, g.inside)

-- every start of a book
kept : {book : List ℕ} {place : ℕ} {sofar : SoFar} {s : Stepped} → Good book place sofar → Steps book place sofar s → (r : Record) → s.outcome ≡ Ok (Some r) → Good book s.place s.sofar
kept g (refuses why) r e = cc
kept g (accepts h u) r e = cc
kept g (gives h u k) r e = good_step g u k

pub reached_good : {book : List ℕ} {place : ℕ} {sofar : SoFar} → Reached book place sofar → Good book place sofar
reached_good {book} begun = start_good book
reached_good {book} (read {place} {sofar} x r e) = kept (reached_good x) (steps book place sofar) r e
