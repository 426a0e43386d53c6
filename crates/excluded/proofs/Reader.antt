-- Versions that the promise of `read_book` excludes, each by what it answers on a book. The sentences are document 01's.
-- Assumes nothing.
use mathlib.Core.List.{List, ◌++◌}
use mathlib.Core.Path.{◌≡◌, refl, sym, ap, ◌∙◌}
use Prim.Native.Nat.{ℕ, ◌+◌, ◌-◌}
use native.Mathlib.Omega.{arith}
use lib.ListN.{length, get_or, length-append}
use lib.Seq.{get_or-append-add}
use Rattle.folds.specs.Fold.{every}
use Rattle.table.specs.Table.{cell_at, empty_table, place_of}
use Rattle.table.specs.declared.Reading.{Reading}
use Rattle.table.specs.declared.Refusal.{Refusal}
use Rattle.table.specs.declared.Table.{Table}
use Rattle.std.specs.Prelude.{Result, Ok, Err}
use Rattle.grow.specs.Grow.{differs, filled}
use Rattle.book.specs.Reading.{read_book}
use Rattle.records.specs.Step.{record_bytes, edge_rule, end_rule, fault_rule, first_of, kind_rule, response_rule, rule_at, step_at, test_rule, unknown_rule}
use Rattle.records.specs.declared.Record.TheVariants.{End}
use Rattle.book_laws.specs.Accepts.{BookOfTable}
use Rattle.book_laws.proofs.Accepted.{accepted_gave, accepts_whole}
use Rattle.book_laws.proofs.Body.{body_of, book_body}
use Rattle.book_laws.proofs.Books.{book_accepts}
use Rattle.small_books.specs.Books.{equal_tests}
use Rattle.excluded.proofs.Left.{no_other, refused_differs}

-- ---- what a reading says

abbrev verdict_of : Reading → Result (Unit {0}) Refusal
verdict_of r = r.verdict

abbrev test_count : Reading → ℕ
test_count r = r.table.tests

abbrev fault_count : Reading → ℕ
fault_count r = r.table.faults

-- ---- "Two equal tests and one fault they see"

read : (verdict_of (read_book equal_tests) ≡ Ok tt) × (test_count (read_book equal_tests) ≡ 2) × (fault_count (read_book equal_tests) ≡ 1)
unfolding read_book step_at rule_at kind_rule edge_rule unknown_rule end_rule response_rule fault_rule test_rule first_of filled differs empty_table cell_at place_of every
read = (refl, refl, refl)

-- "a reader or chooser that only ever refuses"
pub reader_only_refusing : (why : Refusal) (r : Reading) → r ≡ read_book equal_tests → r.verdict ≡ Err why → ⊥
reader_only_refusing why = no_other verdict_of (read_book equal_tests) (Ok tt) read.0 (Err why) (refused_differs why tt)

-- "a class, byte or test count made up": of tests
pub made_up_tests : (n : ℕ) → (n ≡ 2 → ⊥) → (r : Reading) → r ≡ read_book equal_tests → r.table.tests ≡ n → ⊥
made_up_tests = no_other test_count (read_book equal_tests) 2 read.1

-- "a class, byte or test count made up": of faults
pub made_up_faults : (n : ℕ) → (n ≡ 1 → ⊥) → (r : Reading) → r ≡ read_book equal_tests → r.table.faults ≡ n → ⊥
made_up_faults = no_other fault_count (read_book equal_tests) 1 read.2

-- ---- every book

-- "a reader or chooser that only ever refuses": no book of a well-formed table is refused
pub refuses_a_good_book : (book : List ℕ) (tb : Table) → BookOfTable book tb → (why : Refusal) (r : Reading) → r ≡ read_book book → r.verdict ≡ Err why → ⊥
refuses_a_good_book book tb b why = no_other verdict_of (read_book book) (Ok tt) (ap verdict_of (book_accepts book tb b)) (Err why) (refused_differs why tt)

-- an accepted book's last record: "45 hex | 2 bytes | end: number of tests, number of faults"
module _ (book : List ℕ) (taken : (read_book book).verdict ≡ Ok tt) where
  abbrev tb : Table
  tb = (read_book book).table

  abbrev end : List ℕ
  end = record_bytes (End tb.tests tb.faults)

  ended : book ≡ body_of tb ++ end
  ended = (accepted_gave book tb (accepts_whole book taken)).is_book ∙ book_body tb

  counted : length book ≡ length (body_of tb) + 3
  counted = ap length ended ∙ length-append (body_of tb) end

  end_byte : (k i : ℕ) → length (body_of tb) + i ≡ k → get_or end i 0 ≡ get_or book k 0
  end_byte k i at = sym (ap (λ (xs : List ℕ). get_or xs k 0) ended ∙ ap (λ (j : ℕ). get_or (body_of tb ++ end) j 0) (sym at) ∙ get_or-append-add (body_of tb) end i 0)

  -- "a class, byte or test count made up": the byte before the last counts the tests,
  pub other_tests_than_its_end : (n : ℕ) → (n ≡ get_or book (length book - 2) 0 → ⊥) → (r : Reading) → r ≡ read_book book → r.table.tests ≡ n → ⊥
  other_tests_than_its_end = no_other test_count (read_book book) (get_or book (length book - 2) 0) (end_byte (length book - 2) 1 (omega (arith, counted)))

  -- and the last the faults
  pub other_faults_than_its_end : (n : ℕ) → (n ≡ get_or book (length book - 1) 0 → ⊥) → (r : Reading) → r ≡ read_book book → r.table.faults ≡ n → ⊥
  other_faults_than_its_end = no_other fault_count (read_book book) (get_or book (length book - 1) 0) (end_byte (length book - 1) 2 (omega (arith, counted)))
