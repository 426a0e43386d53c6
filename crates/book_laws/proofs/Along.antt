-- A start of a book, by the bytes that are left; and the step over each record from the bytes that are left.
-- Assumes nothing.
use mathlib.Core.Bool.{true, false}
use mathlib.Core.List.{List, ◌++◌}
use mathlib.Core.Path.{◌≡◌, refl, sym, ap, ◌∙◌}
use Prim.Native.Nat.{ℕ, ◌+◌, ◌-◌, ◌≤◌, ◌<◌}
use native.Mathlib.Nat.{add-zero}
use native.Mathlib.Omega.{arith}
use borrow.Author.Tests.{le-ltb, lt-leb, eq-eqb, ne_eqb}
use lib.ListN.{length, get_or, drop, length-drop}
use lib.Seq.{get_or-drop, drop-drop, drop-append_seam}
use Rattle.folds.specs.Fold.{every}
use Rattle.table.specs.Table.{output_at}
use Rattle.table.specs.declared.Table.{Table}
use Rattle.book.specs.Given.{Reached, read}
use Rattle.grow.specs.Grow.{with_test, with_fault, with_response, differs}
use Rattle.records.specs.Step.{record_bytes, given_at, rank_of, not_after, first_of, test_rule, fault_rule, response_rule, end_rule, kind_rule, rule_at, step_at}
use Rattle.records.specs.declared.Record.{Record}
use Rattle.records.specs.declared.Record.TheVariants.{Test, Fault, Response, End}
use Rattle.records.specs.declared.SoFar.{SoFar}
use Rattle.records.specs.declared.Stage.{Stage}
use Rattle.records.specs.declared.Stage.TheVariants.{Tests, Faults, Responses, Ended}

abbrev pub so : Table → Stage → SoFar
so tb stage = record { table = tb; stage = stage }

-- some start of the book, what is left of it, and what holds of the stage and the table
pub record Along (book rest : List ℕ) (P : Stage → Table → Type 0) : Type 0 where
  pub place : ℕ
  pub table : Table
  pub stage : Stage
  pub reached : Reached book place (so table stage)
  pub left : drop place book ≡ rest
  pub holds : P stage table

-- the same start, of which something else holds
pub along : {book rest : List ℕ} {P : Stage → Table → Type 0} (Q : Stage → Table → Type 0) (a : Along book rest P) → Q a.stage a.table → Along book rest Q
along Q a q = record { place = a.place; table = a.table; stage = a.stage; reached = a.reached; left = a.left; holds = q }

module _ (book : List ℕ) (place : ℕ) (rest : List ℕ) (e : drop place book ≡ rest) where
  left_byte : (i : ℕ) → get_or book (place + i) 0 ≡ get_or rest i 0
  left_byte i = sym (get_or-drop place book i 0) ∙ ap (λ (l : List ℕ). get_or l i 0) e

  left_kind : get_or book place 0 ≡ get_or rest 0 0
  left_kind = rw add-zero at (left_byte 0)

  left_length : length book - place ≡ length rest
  left_length = sym (length-drop place book) ∙ ap length e

-- the step over a record
pub go_on : {book rest : List ℕ} {P : Stage → Table → Type 0} (Q : Stage → Table → Type 0) (r : Record) (a : Along book (record_bytes r ++ rest) P) (tb : Table) (stage : Stage)
    → step_at book a.place (so a.table a.stage) ≡ given_at r (a.place + length (record_bytes r)) tb stage → Q stage tb → Along book rest Q
go_on {book} {rest} Q r a tb stage e q = record {
  place = a.place + length (record_bytes r);
  table = tb;
  stage = stage;
  reached = rw e at (read a.reached r (rw e refl));
  left = sym (drop-drop (length (record_bytes r)) a.place book) ∙ ap (drop (length (record_bytes r))) a.left ∙ drop-append_seam (record_bytes r) rest;
  holds = q;
}

module _ (book : List ℕ) (place : ℕ) (tb : Table) (s : Stage) (rest : List ℕ) where
  pub test_step : (x : ℕ) → drop place book ≡ record_bytes (Test x) ++ rest → rank_of s ≤ 0 → tb.tests < 24
      → step_at book place (so tb s) ≡ given_at (Test x) (place + 2) (with_test tb x) Tests
  unfolding step_at rule_at kind_rule test_rule first_of
  test_step x e hs ht =
      let n = left_length book place _ e in
      let never : rank_of s ≡ 3 → ⊥ = λ z. omega arith in
      rw (lt-leb (length book) place (omega arith), ne_eqb (rank_of s) 3 never, left_kind book place _ e, le-ltb (length book) (place + 2) (omega arith), le-ltb 0 (rank_of s) hs, lt-leb 24 tb.tests ht, left_byte book place _ e 1)

  pub fault_step : (l v : ℕ) → drop place book ≡ record_bytes (Fault l v) ++ rest → rank_of s ≤ 1 → tb.faults < 60 → v ≤ 1 → every (differs tb.lines tb.stuck l v) tb.faults ≡ true
      → step_at book place (so tb s) ≡ given_at (Fault l v) (place + 3) (with_fault tb l v) Faults
  unfolding step_at rule_at kind_rule fault_rule first_of
  fault_step l v e hs ht hv hl =
      let n = left_length book place _ e in
      let never : rank_of s ≡ 3 → ⊥ = λ z. omega arith in
      rw (lt-leb (length book) place (omega arith), ne_eqb (rank_of s) 3 never, left_kind book place _ e, le-ltb (length book) (place + 3) (omega arith), le-ltb 1 (rank_of s) hs, lt-leb 60 tb.faults ht, left_byte book place _ e 1, left_byte book place _ e 2, le-ltb 1 v hv, hl)

  pub response_step : (t f x : ℕ) → drop place book ≡ record_bytes (Response t f x) ++ rest → rank_of s ≤ 2 → t < tb.tests → f < tb.faults → not_after s f t ≡ false → (output_at tb t 0 ≡ x → ⊥)
      → step_at book place (so tb s) ≡ given_at (Response t f x) (place + 4) (with_response tb t f x) (Responses f t)
  unfolding step_at rule_at kind_rule response_rule first_of
  response_step t f x e hs ht hf ha hx =
      let n = left_length book place _ e in
      let never : rank_of s ≡ 3 → ⊥ = λ z. omega arith in
      rw (lt-leb (length book) place (omega arith), ne_eqb (rank_of s) 3 never, left_kind book place _ e, le-ltb (length book) (place + 4) (omega arith), left_byte book place _ e 1, left_byte book place _ e 2, left_byte book place _ e 3, lt-leb tb.tests t ht, lt-leb tb.faults f hf, ha, ne_eqb (output_at tb t 0) x hx)

  pub end_step : drop place book ≡ record_bytes (End tb.tests tb.faults) ++ rest → rank_of s ≤ 2
      → step_at book place (so tb s) ≡ given_at (End tb.tests tb.faults) (place + 3) tb Ended
  unfolding step_at rule_at kind_rule end_rule first_of
  end_step e hs =
      let n = left_length book place _ e in
      let never : rank_of s ≡ 3 → ⊥ = λ z. omega arith in
      rw (lt-leb (length book) place (omega arith), ne_eqb (rank_of s) 3 never, left_kind book place _ e, le-ltb (length book) (place + 3) (omega arith), left_byte book place _ e 1, left_byte book place _ e 2, eq-eqb tb.tests _ refl, eq-eqb tb.faults _ refl)
