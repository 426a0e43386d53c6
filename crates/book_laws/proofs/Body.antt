-- The bytes of a table's book before its end record, and what each record adds to them. Assumes nothing.
use mathlib.Core.Bool.{true, false}
use mathlib.Core.List.{List, [], ◌++◌, append-nil, append_assoc}
use mathlib.Core.Logic.{inr}
use mathlib.Core.Path.{◌≡◌, refl, sym, ap, ap₂, ◌∙◌}
use Prim.Native.Nat.{ℕ, ◌+◌, ◌≤◌, ◌<◌}
use native.Mathlib.Omega.{arith}
use borrow.Author.Tests.{eq-eqb, ne_eqb}
use lib.ListN.{length, length-append}
use lib.Seq.{get_or-set_same, get_or-set_other}
use Rattle.folds.specs.Fold.{joined, always}
use Rattle.folds.proofs.Joined.{joined_none, joined_yes, joined_same, joined_alike, joined_stop, joined_most}
use Rattle.folds.proofs.Gather.{always_true}
use Rattle.table.specs.Table.{output_at}
use Rattle.table.specs.WellFormed.{WellFormed}
use Rattle.table.specs.declared.Table.{Table}
use Rattle.table.proofs.Stored.{cell_here, cell_there}
use Rattle.book.specs.BookOf.{test_bytes, fault_bytes, response_bytes, answers_wrong, responses_of, book_of}
use Rattle.grow.specs.Grow.{with_test, with_fault, with_response}
use Rattle.book.specs.Sound.{order_of}
use Rattle.records.specs.Step.{record_bytes}
use Rattle.records.specs.declared.Record.TheVariants.{Test, Fault, Response, End}
use Rattle.book_laws.proofs.Grown.{Long, filled_there}
use Rattle.book_laws.proofs.Stages.{Correct}

module _ (tb : Table) where
  unfoldable pub tests_of : List ℕ
  tests_of = joined always (test_bytes tb) tb.tests

  unfoldable pub faults_of : List ℕ
  faults_of = joined always (fault_bytes tb) tb.faults

  unfoldable pub wrong_of : List ℕ
  wrong_of = joined always (responses_of tb) tb.faults

  unfoldable pub body_of : List ℕ
  body_of = tests_of ++ (faults_of ++ wrong_of)

  pub book_body : book_of tb ≡ body_of ++ record_bytes (End tb.tests tb.faults)
  unfolding book_of body_of tests_of faults_of wrong_of
  book_body = simp append_assoc

  -- ---- how long it is

  row_most : tb.tests ≤ 24 → (f : ℕ) → length (responses_of tb f) ≤ 96
  unfolding responses_of response_bytes
  row_most h f = omega (arith, joined_most (answers_wrong tb f) (response_bytes tb f) 4 tb.tests (λ t. omega arith))

  pub body_most : tb.tests ≤ 24 → tb.faults ≤ 60 → length body_of ≤ 5988
  unfolding body_of tests_of faults_of wrong_of test_bytes fault_bytes
  body_most h k =
      let t = joined_most always (test_bytes tb) 2 tb.tests (λ i. omega arith) in
      let f = joined_most always (fault_bytes tb) 3 tb.faults (λ i. omega arith) in
      let r = joined_most always (responses_of tb) 96 tb.faults (row_most h) in
      simp length-append (omega arith)

  -- ---- no response where every output is correct

  module _ (first : ℕ) (c : Correct tb first) where
    right_not_wrong : (t f : ℕ) → t < tb.tests → f < tb.faults → first ≤ order_of f t → answers_wrong tb f t ≡ false
    unfolding answers_wrong
    right_not_wrong t f h k l = rw (eq-eqb _ _ (c t f h k l))

    row_stops : (t f : ℕ) → t ≤ tb.tests → f < tb.faults → first ≤ order_of f t → responses_of tb f ≡ joined (answers_wrong tb f) (response_bytes tb f) t
    unfolding responses_of
    row_stops t f h k l =
        joined_stop (answers_wrong tb f) (response_bytes tb f) t tb.tests h (λ i m n. rw (right_not_wrong i f n k (omega arith)))

    rows_stop : (f : ℕ) → f ≤ tb.faults → first ≤ order_of f 0 → wrong_of ≡ joined always (responses_of tb) f
    unfolding wrong_of
    rows_stop f h l =
        joined_stop always (responses_of tb) f tb.faults h
        (λ i m n. rw (always_true i) (row_stops 0 i (omega arith) n (omega arith) ∙ joined_none (answers_wrong tb i) (response_bytes tb i)))

  pub none_wrong : Correct tb 0 → wrong_of ≡ []
  none_wrong c = rows_stop 0 c 0 (omega arith) (omega arith) ∙ joined_none always (responses_of tb)

-- ---- what a test adds

no_faults : (tb : Table) → tb.faults ≡ 0 → faults_of tb ++ wrong_of tb ≡ []
unfolding faults_of wrong_of
no_faults tb z =
    ap₂ (λ (a b : List ℕ). a ++ b)
    (ap (joined always (fault_bytes tb)) z ∙ joined_none always (fault_bytes tb))
    (ap (joined always (responses_of tb)) z ∙ joined_none always (responses_of tb))

module _ (tb : Table) (long : Long tb) (x : ℕ) (h : tb.tests < 24) where
  tests_more : tests_of (with_test tb x) ≡ tests_of tb ++ record_bytes (Test x)
  unfolding tests_of test_bytes
  tests_more =
      joined_yes always (test_bytes (with_test tb x)) tb.tests (always_true tb.tests)
      ∙ ap₂ (λ (a b : List ℕ). a ++ b)
      (joined_same always (test_bytes (with_test tb x)) (test_bytes tb) tb.tests (λ i l. rw (cell_there tb.cells tb.tests 0 x i 0 h (omega arith) (omega arith) (omega arith) (λ e f. omega arith))))
      (rw (cell_here tb.cells tb.tests 0 x long.cells h (omega arith)))

  pub body_test : tb.faults ≡ 0 → body_of (with_test tb x) ≡ body_of tb ++ record_bytes (Test x)
  unfolding body_of
  body_test z = rw (no_faults (with_test tb x) z, no_faults tb z) (simp append-nil tests_more)

-- ---- what a fault adds

module _ (tb : Table) (long : Long tb) (w : WellFormed tb) (l v : ℕ) (h : tb.faults < 60) where
  fault_tests : tests_of (with_fault tb l v) ≡ tests_of tb
  unfolding tests_of test_bytes
  fault_tests = joined_same always (test_bytes (with_fault tb l v)) (test_bytes tb) tb.tests
      (λ i m. rw (filled_there tb.cells (tb.faults + 1) tb.tests i 0 (omega arith) w.tests_fit (omega (arith, w.tests_fit)) (omega arith) (inr (λ e. omega arith))))

  faults_more : faults_of (with_fault tb l v) ≡ faults_of tb ++ record_bytes (Fault l v)
  unfolding faults_of fault_bytes
  faults_more =
      joined_yes always (fault_bytes (with_fault tb l v)) tb.faults (always_true tb.faults)
      ∙ ap₂ (λ (a b : List ℕ). a ++ b)
      (joined_same always (fault_bytes (with_fault tb l v)) (fault_bytes tb) tb.faults (λ i m. rw (get_or-set_other tb.lines tb.faults i l 0 (λ e. omega arith), get_or-set_other tb.stuck tb.faults i v 0 (λ e. omega arith))))
      (rw (get_or-set_same tb.lines tb.faults l 0 (omega (arith, long.lines)), get_or-set_same tb.stuck tb.faults v 0 (omega (arith, long.stuck))))

  pub body_fault : Correct tb 0 → Correct (with_fault tb l v) 0 → body_of (with_fault tb l v) ≡ body_of tb ++ record_bytes (Fault l v)
  unfolding body_of
  body_fault c d = rw (fault_tests, faults_more, none_wrong tb c, none_wrong (with_fault tb l v) d) (simp (append-nil, append_assoc))

-- ---- what a response adds

module _ (tb : Table) (long : Long tb) (w : WellFormed tb) (t f x : ℕ) (h : t < tb.tests) (k : f < tb.faults) where
  abbrev new : Table
  new = with_response tb t f x

  response_here : output_at new t (f + 1) ≡ x
  response_here = cell_here tb.cells t (f + 1) x long.cells (omega (arith, w.tests_fit)) (omega (arith, w.faults_fit))

  response_there : (u d : ℕ) → u < tb.tests → d ≤ tb.faults → (u ≡ t → d ≡ f + 1 → ⊥) → output_at new u d ≡ output_at tb u d
  response_there u d m n ne = cell_there tb.cells t (f + 1) x u d (omega (arith, w.tests_fit)) (omega (arith, w.faults_fit)) (omega (arith, w.tests_fit)) (omega (arith, w.faults_fit)) ne

  response_tests : tests_of new ≡ tests_of tb
  unfolding tests_of test_bytes
  response_tests = joined_same always (test_bytes new) (test_bytes tb) tb.tests (λ i m. rw (response_there i 0 m (omega arith) (λ e g. omega arith)))

  response_faults : faults_of new ≡ faults_of tb
  unfolding faults_of fault_bytes
  response_faults = refl

  kept : (g n u : ℕ) → g < tb.faults → n ≤ tb.tests → ((u : ℕ) → u < n → u ≡ t → g ≡ f → ⊥) → u < n → output_at new u (g + 1) ≡ output_at tb u (g + 1)
  kept g n u m l ne v = response_there u (g + 1) (omega arith) (omega arith) (λ e q. ne u v e (omega arith))

  -- the rows below a test of a fault, where they are not the one stored to
  row_kept : (g n : ℕ) → g < tb.faults → n ≤ tb.tests → ((u : ℕ) → u < n → u ≡ t → g ≡ f → ⊥) → joined (answers_wrong new g) (response_bytes new g) n ≡ joined (answers_wrong tb g) (response_bytes tb g) n
  unfolding answers_wrong response_bytes
  row_kept g n m l ne =
      joined_alike (answers_wrong new g) (answers_wrong tb g) (response_bytes new g) (response_bytes tb g) n
      (λ u v. rw (response_there u 0 (omega arith) (omega arith) (λ e q. omega arith), kept g n u m l ne v))
      (λ u v w. rw (kept g n u m l ne v))

  here_wrong : (output_at tb t 0 ≡ x → ⊥) → answers_wrong new f t ≡ true
  unfolding answers_wrong
  here_wrong ne = rw (response_there t 0 h (omega arith) (λ e g. omega arith), response_here, ne_eqb (output_at tb t 0) x ne)

  here_bytes : response_bytes new f t ≡ record_bytes (Response t f x)
  unfolding response_bytes
  here_bytes = rw response_here

  row_more : Correct tb (order_of f t) → Correct new (order_of f t + 1) → (output_at tb t 0 ≡ x → ⊥) → responses_of new f ≡ responses_of tb f ++ record_bytes (Response t f x)
  row_more c d ne =
      row_stops new (order_of f t + 1) d (t + 1) f (omega arith) k (omega arith)
      ∙ joined_yes (answers_wrong new f) (response_bytes new f) t (here_wrong ne)
      ∙ ap₂ (λ (a b : List ℕ). a ++ b) (row_kept f t k (omega arith) (λ u v e g. omega arith) ∙ sym (row_stops tb (order_of f t) c t f (omega arith) k (omega arith))) here_bytes

  lower_rows : (g : ℕ) → g < f → responses_of new g ≡ responses_of tb g
  unfolding responses_of
  lower_rows g l = row_kept g tb.tests (omega arith) (omega arith) (λ u v e q. omega arith)

  wrong_more : Correct tb (order_of f t) → Correct new (order_of f t + 1) → (output_at tb t 0 ≡ x → ⊥) → wrong_of new ≡ wrong_of tb ++ record_bytes (Response t f x)
  wrong_more c d ne =
      rows_stop new (order_of f t + 1) d (f + 1) (omega arith) (omega (arith, w.tests_fit))
      ∙ joined_yes always (responses_of new) f (always_true f)
      ∙ ap₂ (λ (a b : List ℕ). a ++ b) (joined_same always (responses_of new) (responses_of tb) f lower_rows) (row_more c d ne)
      ∙ sym (append_assoc (joined always (responses_of tb) f) (responses_of tb f) (record_bytes (Response t f x)))
      ∙ ap (λ (a : List ℕ). a ++ record_bytes (Response t f x)) (sym (joined_yes always (responses_of tb) f (always_true f)) ∙ sym (rows_stop tb (order_of f t) c (f + 1) (omega arith) (omega (arith, w.tests_fit))))

  pub body_response : Correct tb (order_of f t) → Correct new (order_of f t + 1) → (output_at tb t 0 ≡ x → ⊥) → body_of new ≡ body_of tb ++ record_bytes (Response t f x)
  unfolding body_of
  body_response c d ne = rw (response_tests, response_faults, wrong_more c d ne) (simp append_assoc)
