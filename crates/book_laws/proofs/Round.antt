-- The book of a well-formed table leads to its end record with that table. Assumes nothing.
use mathlib.Core.Bool.{true, false}
use mathlib.Core.List.{List, ◌++◌}
use mathlib.Core.Logic.{inl, inr, ⊎_elim}
use mathlib.Core.Path.{◌≡◌, refl, sym, ◌∙◌}
use Prim.Native.Nat.{ℕ, zero, suc, ◌+◌, ◌≤◌, ◌<◌}
use native.Mathlib.Numerals.{add-one}
use native.Mathlib.Omega.{arith}
use borrow.Author.Tests.{le-ltb, lt-leb, ne_eqb, eqb-true, eqb-false, not-true, not-false}
use lib.Dec.{eqb}
use lib.ListN.{length, get_or, set}
use lib.Seq.{get_or-set_same, get_or-set_other, ext_get_or}
use Rattle.folds.specs.Fold.{joined, every, always}
use Rattle.folds.proofs.Below.{lt_or_ge, eq_or_ne, below_cases}
use Rattle.folds.proofs.Bools.{both_false, clash}
use Rattle.folds.proofs.Gather.{always_true}
use Rattle.folds.proofs.Rows.{joined_run}
use Rattle.table.specs.Table.{empty_table, output_at, line_of, stuck_of}
use Rattle.table.specs.WellFormed.{WellFormed}
use Rattle.table.specs.declared.Table.{Table}
use Rattle.table.proofs.Stored.{cell_here, cell_there, cells_same}
use Rattle.book.specs.BookOf.{test_bytes, fault_bytes, response_bytes, answers_wrong, responses_of, book_of}
use Rattle.book.specs.Given.{begun}
use Rattle.grow.specs.Grow.{with_test, with_fault, with_response, differs}
use Rattle.book.specs.Sound.{order_of}
use Rattle.records.specs.Step.{record_bytes, rank_of, not_after}
use Rattle.records.specs.declared.Record.TheVariants.{Test, Fault, Response, End}
use Rattle.records.specs.declared.Stage.{Stage}
use Rattle.records.specs.declared.Stage.TheVariants.{Tests, Faults, Responses, Ended}
use Rattle.book_laws.proofs.Along.{Along, along, go_on, test_step, fault_step, response_step}
use Rattle.book_laws.proofs.Good.{reached_good}
use Rattle.book_laws.proofs.Grown.{Long, filled_here, filled_there, label_new}

-- a table is its parts
pub table_same : {u t : Table} → u.tests ≡ t.tests → u.faults ≡ t.faults → u.cells ≡ t.cells → u.lines ≡ t.lines → u.stuck ≡ t.stuck → u ≡ t
table_same {u} {t} a b c d e = whole
  where
    made : ℕ → ℕ → List ℕ → List ℕ → List ℕ → Table
    made m n x y z = record { tests = m; faults = n; cells = x; lines = y; stuck = z }

    whole : made u.tests u.faults u.cells u.lines u.stuck ≡ made t.tests t.faults t.cells t.lines t.stuck
    whole = rw (a, b, c, d, e)

-- two lists of 60 labels that agree below n, and are zero from there
labels_same : (xs ys : List ℕ) (n : ℕ) → length xs ≡ 60 → length ys ≡ 60 → ((f : ℕ) → f < n → get_or xs f 0 ≡ get_or ys f 0)
    → ((f : ℕ) → n ≤ f → f < 60 → get_or xs f 0 ≡ 0) → ((f : ℕ) → n ≤ f → f < 60 → get_or ys f 0 ≡ 0) → xs ≡ ys
labels_same xs ys n l m h p q = ext_get_or 0 xs ys (l ∙ sym m) λ k b.
    ⊎_elim (h k) (λ (x : n ≤ k). p k x (rw l at b) ∙ sym (q k x (rw l at b))) (lt_or_ge k n)

module _ (t : Table) (w : WellFormed t) (o : Long t) where
  abbrev few : t.tests ≤ 24
  few = w.tests_fit

  abbrev fews : t.faults ≤ 60
  fews = w.faults_fit

  -- ---- the tables on the way

  -- after k tests
  record After-tests (k : ℕ) (u : Table) : Type 0 where
    tests : u.tests ≡ k
    faults : u.faults ≡ 0
    outputs : (i : ℕ) → i < k → output_at u i 0 ≡ output_at t i 0

  more_tests : (k : ℕ) (u : Table) → Long u → k < 24 → After-tests k u → After-tests (k + 1) (with_test u (output_at t k 0))
  more_tests k u n h a = record {
    tests = rw a.tests;
    faults = a.faults;
    outputs = λ i l. ⊎_elim
        (λ (m : i < k). cell_there u.cells u.tests 0 _ i 0 (omega (arith, a.tests)) (omega arith) (omega arith) (omega arith) (λ e f. omega (arith, a.tests)) ∙ a.outputs i m)
        (λ (e : i ≡ k). rw (e, a.tests) (cell_here u.cells k 0 _ n.cells h (omega arith)))
        (below_cases i k (omega arith));
  }

  -- after all tests and k faults
  record After-faults (k : ℕ) (u : Table) : Type 0 where
    tests : u.tests ≡ t.tests
    faults : u.faults ≡ k
    lines : (f : ℕ) → f < k → line_of u f ≡ line_of t f
    stuck : (f : ℕ) → f < k → stuck_of u f ≡ stuck_of t f
    outputs : (i c : ℕ) → i < t.tests → c ≤ k → output_at u i c ≡ output_at t i 0

  no_faults : (u : Table) → After-tests t.tests u → After-faults 0 u
  no_faults u a = record {
    tests = a.tests;
    faults = a.faults;
    lines = λ f h. absurd (omega arith);
    stuck = λ f h. absurd (omega arith);
    outputs = λ i c h l. let z : c ≡ 0 = omega arith in rw z (a.outputs i h);
  }

  fresh_label : (k : ℕ) (u : Table) → k < t.faults → After-faults k u → every (differs u.lines u.stuck (line_of t k) (stuck_of t k)) u.faults ≡ true
  fresh_label k u h a =
      rw a.faults (label_new u.lines u.stuck _ _ k (λ f l p q. w.distinct k f l h (sym p ∙ a.lines f l) (sym q ∙ a.stuck f l)))

  label_more : (xs ys : List ℕ) (k n : ℕ) → length xs ≡ 60 → k < 60 → n ≡ k → ((f : ℕ) → f < k → get_or xs f 0 ≡ get_or ys f 0) → (f : ℕ) → f < k + 1 → get_or (set xs n (get_or ys k 0)) f 0 ≡ get_or ys f 0
  label_more xs ys k n l h e a f m = ⊎_elim
      (λ (b : f < k). get_or-set_other xs n f _ 0 (λ q. omega arith) ∙ a f b)
      (λ (b : f ≡ k). rw (b, e) (get_or-set_same xs k _ 0 (omega arith)))
      (below_cases f k (omega arith))

  more_faults : (k : ℕ) (u : Table) → Long u → k < t.faults → After-faults k u → After-faults (k + 1) (with_fault u (line_of t k) (stuck_of t k))
  more_faults k u n h a =
      let g = a.faults in
      let m = a.tests in
      record {
        tests = a.tests;
        faults = rw a.faults;
        lines = label_more u.lines t.lines k u.faults n.lines (omega (arith, fews)) g a.lines;
        stuck = label_more u.stuck t.stuck k u.faults n.stuck (omega (arith, fews)) g a.stuck;
        outputs = λ i c l b. ⊎_elim
            (λ (x : c < k + 1). filled_there u.cells (u.faults + 1) u.tests i c (omega (arith, fews)) (omega (arith, few)) (omega (arith, few)) (omega (arith, fews)) (inr (λ e. omega arith)) ∙ a.outputs i c l (omega arith))
            (λ (x : c ≡ k + 1). rw (x, ← g) (filled_here u.cells (u.faults + 1) u.tests i n.cells (omega (arith, fews)) (omega (arith, few)) (omega arith)) ∙ a.outputs i 0 l (omega arith))
            (below_cases c (k + 1) (omega arith));
      }

  -- after all tests and faults, and the responses before the one that stands at n among all
  record After-responses (n : ℕ) (u : Table) : Type 0 where
    tests : u.tests ≡ t.tests
    faults : u.faults ≡ t.faults
    lines : (f : ℕ) → f < t.faults → line_of u f ≡ line_of t f
    stuck : (f : ℕ) → f < t.faults → stuck_of u f ≡ stuck_of t f
    healthy : (i : ℕ) → i < t.tests → output_at u i 0 ≡ output_at t i 0
    given : (i f : ℕ) → i < t.tests → f < t.faults → order_of f i < n → output_at u i (f + 1) ≡ output_at t i (f + 1)
    correct : (i f : ℕ) → i < t.tests → f < t.faults → n ≤ order_of f i → output_at u i (f + 1) ≡ output_at t i 0

  no_responses : (u : Table) → After-faults t.faults u → After-responses 0 u
  no_responses u a = record {
    tests = a.tests;
    faults = a.faults;
    lines = a.lines;
    stuck = a.stuck;
    healthy = λ i h. a.outputs i 0 h (omega arith);
    given = λ i f h l b. absurd (omega arith);
    correct = λ i f h l b. a.outputs i (f + 1) h (omega arith);
  }

  more_responses : (i f : ℕ) (u : Table) → Long u → i < t.tests → f < t.faults → After-responses (order_of f i) u → After-responses (order_of f i + 1) (with_response u i f (output_at t i (f + 1)))
  more_responses i f u n hi hf a = record {
    tests = a.tests;
    faults = a.faults;
    lines = a.lines;
    stuck = a.stuck;
    healthy = λ j h. there j 0 h (omega arith) (λ e q. omega arith) ∙ a.healthy j h;
    given = λ j g h l b. ⊎_elim
        (λ (m : order_of g j < order_of f i). there j (g + 1) h (omega arith) (λ e q. omega arith) ∙ a.given j g h l m)
        (λ (m : order_of f i ≤ order_of g j).
        let p : j ≡ i = omega (arith, few) in
        let q : g ≡ f = omega (arith, few) in
        rw (p, q) (cell_here u.cells i (f + 1) _ n.cells (omega (arith, few)) (omega (arith, fews))))
        (lt_or_ge (order_of g j) (order_of f i));
    correct = λ j g h l b. there j (g + 1) h (omega arith) (λ e q. omega arith) ∙ a.correct j g h l (omega arith);
  }
    where
      there : (j c : ℕ) → j < t.tests → c ≤ t.faults → (j ≡ i → c ≡ f + 1 → ⊥) → output_at (with_response u i f (output_at t i (f + 1))) j c ≡ output_at u j c
      there j c h l ne = cell_there u.cells i (f + 1) _ j c (omega (arith, few)) (omega (arith, fews)) (omega (arith, few)) (omega (arith, fews)) ne

  -- nothing is written where the output is the correct one; nor between the rows
  later : (n m : ℕ) (u : Table) → n ≤ m → ((i f : ℕ) → i < t.tests → f < t.faults → n ≤ order_of f i → order_of f i < m → output_at t i 0 ≡ output_at t i (f + 1)) → After-responses n u → After-responses m u
  later n m u l same a = record {
    tests = a.tests;
    faults = a.faults;
    lines = a.lines;
    stuck = a.stuck;
    healthy = a.healthy;
    given = λ j g h k b. ⊎_elim
        (λ (x : order_of g j < n). a.given j g h k x)
        (λ (x : n ≤ order_of g j). a.correct j g h k x ∙ same j g h k x b)
        (lt_or_ge (order_of g j) n);
    correct = λ j g h k b. a.correct j g h k (omega arith);
  }

  -- the table after all responses is the table
  module _ (n : ℕ) (u : Table) (wu : WellFormed u) (nu : Long u) (h : order_of t.faults 0 ≤ n) (a : After-responses n u) where
    used_same : (i c : ℕ) → i < t.tests → c ≤ t.faults → output_at u i c ≡ output_at t i c
    used_same i zero l m = a.healthy i l
    used_same i (suc f) l m = rw (sym (add-one f)) (a.given i f l (omega arith) (omega (arith, few)))

    all_same : (i c : ℕ) → i < 24 → c < 61 → output_at u i c ≡ output_at t i c
    all_same i c l m =
        let p = a.tests in
        let q = a.faults in
        ⊎_elim
        (λ (x : i < t.tests).
        ⊎_elim (λ (y : c < t.faults + 1). used_same i c x (omega arith))
        (λ (y : t.faults + 1 ≤ c). wu.cells_clear i c l m (inr (omega arith)) ∙ sym (w.cells_clear i c l m (inr y)))
        (lt_or_ge c (t.faults + 1)))
        (λ (x : t.tests ≤ i). wu.cells_clear i c l m (inl (omega arith)) ∙ sym (w.cells_clear i c l m (inl x)))
        (lt_or_ge i t.tests)

    after_all : u ≡ t
    after_all =
        let q = a.faults in
        table_same a.tests a.faults (cells_same u.cells t.cells nu.cells o.cells all_same)
        (labels_same u.lines t.lines t.faults nu.lines o.lines a.lines (λ f x y. (wu.labels_clear f (omega arith) y).0) (λ f x y. (w.labels_clear f x y).0))
        (labels_same u.stuck t.stuck t.faults nu.stuck o.stuck a.stuck (λ f x y. (wu.labels_clear f (omega arith) y).1) (λ f x y. (w.labels_clear f x y).1))

  -- ---- the stage before the response at a place

  abbrev Before : Stage → ℕ → Type 0
  Before Tests n = Unit {0}
  Before Faults n = Unit {0}
  Before (Responses g j) n = (order_of g j < n) × (j < 24)
  Before Ended n = ⊥

  before_rank : (s : Stage) (n : ℕ) → Before s n → rank_of s ≤ 2
  before_rank Tests n b = omega arith
  before_rank Faults n b = omega arith
  before_rank (Responses g j) n b = omega arith
  before_rank Ended n b = absurd b

  before_more : (s : Stage) (n m : ℕ) → n ≤ m → Before s n → Before s m
  before_more Tests n m h b = tt
  before_more Faults n m h b = tt
  before_more (Responses g j) n m h b = (omega (arith, b.0), b.1)
  before_more Ended n m h b = b

  before_after : (s : Stage) (f i : ℕ) → i < 24 → Before s (order_of f i) → not_after s f i ≡ false
  before_after Tests f i h b = refl
  before_after Faults f i h b = refl
  before_after Ended f i h b = absurd b
  before_after (Responses g j) f i h b =
      rw (le-ltb f g (omega (arith, b.0, b.1)))
      (⊎_elim (λ (e : f ≡ g). rw (lt-leb i j (omega (arith, b.0))) (both_false (eqb f g))) (λ (ne : f ≡ g → ⊥). rw (ne_eqb f g ne)) (eq_or_ne f g))

  -- ---- the runs over each group of the book

  abbrev At-tests : ℕ → Stage → Table → Type 0
  At-tests k s u = (rank_of s ≤ 0) × After-tests k u

  abbrev At-faults : ℕ → Stage → Table → Type 0
  At-faults k s u = (rank_of s ≤ 1) × After-faults k u

  abbrev At-responses : ℕ → Stage → Table → Type 0
  At-responses n s u = Before s n × After-responses n u

  module _ (book : List ℕ) where
    long_at : {rest : List ℕ} {P : Stage → Table → Type 0} (a : Along book rest P) → Long a.table
    long_at a = (reached_good a.reached).long

    tests_run : (rest : List ℕ) → Along book (joined always (test_bytes t) t.tests ++ rest) (At-tests 0) → Along book rest (At-tests t.tests)
    unfolding test_bytes
    tests_run rest a = joined_run always (test_bytes t) t.tests (λ k rest. Along book rest (At-tests k)) step (λ k rest h e. clash _ (always_true k) e) rest a
      where
        step : (k : ℕ) (rest : List ℕ) → k < t.tests → always k ≡ true → Along book (record_bytes (Test (output_at t k 0)) ++ rest) (At-tests k) → Along book rest (At-tests (k + 1))
        step k rest h e b =
            go_on (At-tests (k + 1)) (Test (output_at t k 0)) b (with_test b.table (output_at t k 0)) Tests
            (test_step book b.place b.table b.stage _ (output_at t k 0) b.left b.holds.0 (omega (arith, b.holds.1.tests, few)))
            (omega arith, more_tests k b.table (long_at b) (omega (arith, few)) b.holds.1)

    faults_run : (rest : List ℕ) → Along book (joined always (fault_bytes t) t.faults ++ rest) (At-faults 0) → Along book rest (At-faults t.faults)
    unfolding fault_bytes
    faults_run rest a = joined_run always (fault_bytes t) t.faults (λ k rest. Along book rest (At-faults k)) step (λ k rest h e. clash _ (always_true k) e) rest a
      where
        step : (k : ℕ) (rest : List ℕ) → k < t.faults → always k ≡ true → Along book (record_bytes (Fault (line_of t k) (stuck_of t k)) ++ rest) (At-faults k) → Along book rest (At-faults (k + 1))
        step k rest h e b =
            go_on (At-faults (k + 1)) (Fault (line_of t k) (stuck_of t k)) b (with_fault b.table (line_of t k) (stuck_of t k)) Faults
            (fault_step book b.place b.table b.stage _ (line_of t k) (stuck_of t k) b.left b.holds.0 (omega (arith, b.holds.1.faults, fews)) (w.stuck_fit k h) (fresh_label k b.table h b.holds.1))
            (omega arith, more_faults k b.table (long_at b) h b.holds.1)

    -- nothing is written between two places
    pass : {rest : List ℕ} (n m : ℕ) → n ≤ m → ((i f : ℕ) → i < t.tests → f < t.faults → n ≤ order_of f i → order_of f i < m → output_at t i 0 ≡ output_at t i (f + 1))
        → Along book rest (At-responses n) → Along book rest (At-responses m)
    pass n m l same a = along (At-responses m) a (before_more a.stage n m l a.holds.0, later n m a.table l same a.holds.1)

    row_run : (f : ℕ) (rest : List ℕ) → f < t.faults → Along book (joined (answers_wrong t f) (response_bytes t f) t.tests ++ rest) (At-responses (order_of f 0)) → Along book rest (At-responses (order_of f t.tests))
    unfolding answers_wrong response_bytes
    row_run f rest hf a = joined_run (answers_wrong t f) (response_bytes t f) t.tests (λ i rest. Along book rest (At-responses (order_of f i))) took passed rest a
      where
        took : (i : ℕ) (rest : List ℕ) → i < t.tests → answers_wrong t f i ≡ true → Along book (record_bytes (Response i f (output_at t i (f + 1))) ++ rest) (At-responses (order_of f i)) → Along book rest (At-responses (order_of f (i + 1)))
        took i rest hi x b =
            let c = b.holds.1 in
            let ne : output_at t i 0 ≡ output_at t i (f + 1) → ⊥ = eqb-false _ _ (not-true (eqb (output_at t i 0) (output_at t i (f + 1))) x) in
            let next : order_of f i + 1 ≡ order_of f (i + 1) = omega arith in
            go_on (At-responses (order_of f (i + 1))) (Response i f (output_at t i (f + 1))) b (with_response b.table i f (output_at t i (f + 1))) (Responses f i)
            (response_step book b.place b.table b.stage _ i f (output_at t i (f + 1)) b.left (before_rank b.stage _ b.holds.0) (omega (arith, hi, c.tests)) (omega (arith, hf, c.faults))
            (before_after b.stage f i (omega (arith, hi, few)) b.holds.0) (λ z. ne (sym (c.healthy i hi) ∙ z)))
            ((omega arith, omega (arith, hi, few)), rw next at (more_responses i f b.table (long_at b) hi hf c))

        passed : (i : ℕ) (rest : List ℕ) → i < t.tests → answers_wrong t f i ≡ false → Along book rest (At-responses (order_of f i)) → Along book rest (At-responses (order_of f (i + 1)))
        passed i rest hi x b =
            let same = eqb-true _ _ (not-false (eqb (output_at t i 0) (output_at t i (f + 1))) x) in
            pass (order_of f i) (order_of f (i + 1)) (omega arith)
            (λ j g h k y z.
            let p : j ≡ i = omega (arith, few) in
            let q : g ≡ f = omega (arith, few) in
            rw (p, q) same)
            b

    responses_run : (rest : List ℕ) → Along book (joined always (responses_of t) t.faults ++ rest) (At-responses (order_of 0 0)) → Along book rest (At-responses (order_of t.faults 0))
    unfolding responses_of
    responses_run rest a = joined_run always (responses_of t) t.faults (λ f rest. Along book rest (At-responses (order_of f 0))) step (λ f rest h e. clash _ (always_true f) e) rest a
      where
        step : (f : ℕ) (rest : List ℕ) → f < t.faults → always f ≡ true → Along book (responses_of t f ++ rest) (At-responses (order_of f 0)) → Along book rest (At-responses (order_of (f + 1) 0))
        step f rest h e b =
            pass (order_of f t.tests) (order_of (f + 1) 0) (omega (arith, few)) (λ i g h k x y. absurd (omega (arith, few))) (row_run f rest h b)

  -- ---- the whole book

  at_start : Along (book_of t) (book_of t) (At-tests 0)
  unfolding empty_table
  at_start = record {
    place = 0;
    table = empty_table;
    stage = Tests;
    reached = begun;
    left = refl;
    holds = (omega arith, record { tests = refl; faults = refl; outputs = λ i h. absurd (omega arith) });
  }

  low : (s : Stage) → rank_of s ≤ 1 → Before s 0
  low Tests h = tt
  low Faults h = tt
  low (Responses g j) h = absurd (omega arith)
  low Ended h = absurd (omega arith)

  abbrev pub At-end : Stage → Table → Type 0
  At-end s u = (u ≡ t) × (rank_of s ≤ 2)

  whole : {rest : List ℕ} → Along (book_of t) rest (At-responses (order_of t.faults 0)) → Along (book_of t) rest At-end
  whole a =
      let g = reached_good a.reached in
      along At-end a (after_all (order_of t.faults 0) a.table g.formed g.long (omega arith) a.holds.1, before_rank a.stage (order_of t.faults 0) a.holds.0)

  from_faults : {rest : List ℕ} → Along (book_of t) rest (At-tests t.tests) → Along (book_of t) rest (At-faults 0)
  from_faults a = along (At-faults 0) a (omega (arith, a.holds.0), no_faults a.table a.holds.1)

  from_responses : {rest : List ℕ} → Along (book_of t) rest (At-faults t.faults) → Along (book_of t) rest (At-responses 0)
  from_responses a = along (At-responses 0) a (low a.stage a.holds.0, no_responses a.table a.holds.1)

  -- the table's book leads to its end record, with the whole table
  pub run : Along (book_of t) (record_bytes (End t.tests t.faults)) At-end
  unfolding book_of
  run =
      whole (responses_run (book_of t) _
      (from_responses (faults_run (book_of t) _
      (from_faults (tests_run (book_of t) _ at_start)))))
