-- One book has 5,991 bytes, and so many bytes do not settle a reading. The sentences are document 01's. Assumes nothing.
use mathlib.Core.Bool.{true}
use mathlib.Core.List.{List, [], ◌∷◌, ◌++◌}
use mathlib.Core.Logic.{⊎_elim}
use mathlib.Core.Path.{◌≡◌, refl, sym, ap, ◌∙◌}
use Prim.Native.Nat.{ℕ, zero, suc, ◌+◌, ◌≤◌, ◌<◌}
use native.Mathlib.Omega.{arith}
use lib.Dec.{lit≤}
use lib.ListN.{length, take, replicate, length-append, length-replicate}
use lib.Seq.{take-append-le}
use Rattle.std.specs.Prelude.{Ok}
use Rattle.folds.specs.Fold.{listed, always}
use Rattle.folds.proofs.All.{all_of, all_read, all_append, gather_all}
use Rattle.folds.proofs.Gather.{listed_length, listed_get, always_true}
use Rattle.folds.proofs.Joined.{joined_exact}
use Rattle.table.specs.Table.{output_at, line_of}
use Rattle.table.specs.WellFormed.{WellFormed, OfType}
use Rattle.table.specs.declared.Reading.{Reading}
use Rattle.table.specs.declared.Table.{Table}
use Rattle.table.proofs.Stored.{cells_of}
use Rattle.table.proofs.Empty.{zero_label}
use Rattle.book.specs.BookOf.{test_bytes, fault_bytes, response_bytes, answers_wrong, responses_of, book_of}
use Rattle.book.specs.Given.{Bytes}
use Rattle.book.specs.Reading.{read_book}
use Rattle.book_laws.specs.Accepts.{Accepts}
use Rattle.book_laws.proofs.Books.{book_accepts, accepted_most}
use Rattle.book_laws.proofs.Bytes.{byte, book_all, book_bytes}

-- ---- 24 tests and 60 faults, each of which answers every test wrong

out : ℕ → ℕ → ℕ
out t zero = 0
out t (suc f) = 1

small : (t c : ℕ) → out t c < 256
unfolding out
small t zero = omega arith
small t (suc f) = omega arith

line : ℕ → ℕ
line f = f

full : Table
full = record { tests = 24; faults = 60; cells = (cells_of out small).0; lines = listed line 60; stuck = replicate 60 0 }

full_output : (t c : ℕ) → t < 24 → c < 61 → output_at full t c ≡ out t c
unfolding full
full_output = (cells_of out small).2

full_line : (f : ℕ) → f < 60 → line_of full f ≡ f
unfolding full line
full_line f h = listed_get line 60 f h

full_formed : WellFormed full
unfolding full
full_formed = record {
  tests_fit = lit≤ tt;
  faults_fit = lit≤ tt;
  stuck_fit = λ f h. omega (arith, zero_label f);
  distinct = λ f g h l p q. omega (arith, full_line f l, full_line g (omega arith));
  cells_clear = λ t c h l u. ⊎_elim (λ (x : 24 ≤ t). absurd (omega arith)) (λ (x : 61 ≤ c). absurd (omega arith)) u;
  labels_clear = λ f h l. absurd (omega arith);
}

full_typed : OfType full
unfolding full line
full_typed = record {
  cells_long = (cells_of out small).1;
  lines_long = listed_length line 60;
  stuck_long = length-replicate {A = ℕ} 60 0;
  cells_bytes = (cells_of out small).3;
  lines_bytes = all_read byte (omega arith) (listed line 60) (gather_all byte always line 60 (λ f h e. omega arith));
  stuck_bytes = λ f. omega (arith, zero_label f);
}

full_wrong : (t f : ℕ) → t < 24 → f < 60 → answers_wrong full f t ≡ true
unfolding answers_wrong out
full_wrong t f h k =
    let e : f + 1 ≡ suc f = omega arith in
    rw (full_output t 0 h (omega arith), full_output t (f + 1) h (omega arith), e)

full_row : (f : ℕ) → f < 60 → length (responses_of full f) ≡ 96
unfolding responses_of response_bytes full
full_row f k = joined_exact (answers_wrong full f) (response_bytes full f) 4 24 (λ t h. full_wrong t f h k) (λ t h. refl)

full_length : length (book_of full) ≡ 5991
unfolding book_of test_bytes fault_bytes full
full_length =
    let t = joined_exact always (test_bytes full) 2 24 (λ i h. always_true i) (λ i h. refl) in
    let f = joined_exact always (fault_bytes full) 3 60 (λ i h. always_true i) (λ i h. refl) in
    let r = joined_exact always (responses_of full) 96 60 (λ i h. always_true i) full_row in
    simp length-append (omega arith)

full_accepted : Accepts (book_of full) full
full_accepted = book_accepts (book_of full) full (record { typed = full_typed; formed = full_formed; is = refl })

-- ---- the theorems

-- "The longest book has 5,991 bytes"
pub longest : (book : List ℕ) × Bytes book × (length book ≡ 5991) × ((read_book book).verdict ≡ Ok tt)
longest = (book_of full, book_bytes full full_formed full_typed, full_length, ap (λ (r : Reading). r.verdict) full_accepted)

-- two inputs that agree on their first 5,991 bytes, and have two readings
pub unsettled : (a : List ℕ) × (b : List ℕ) × Bytes a × Bytes b × (take 5991 a ≡ take 5991 b) × (read_book a ≡ read_book b → ⊥)
unsettled = (book_of full, book_of full ++ (0 ∷ []), book_bytes full full_formed full_typed, more, agree, apart)
  where
    more : Bytes (book_of full ++ (0 ∷ []))
    more = all_read byte (omega arith) (book_of full ++ (0 ∷ [])) (all_append byte (book_of full) (0 ∷ []) (book_all full full_formed full_typed) (all_of byte (0 ∷ []) (omega arith, tt)))

    agree : take 5991 (book_of full) ≡ take 5991 (book_of full ++ (0 ∷ []))
    agree = sym (take-append-le 5991 (book_of full) (0 ∷ []) (omega (arith, full_length)))

    apart : read_book (book_of full) ≡ read_book (book_of full ++ (0 ∷ [])) → ⊥
    apart e =
        let v = ap (λ (r : Reading). r.verdict) (sym e ∙ full_accepted) in
        let n = accepted_most (book_of full ++ (0 ∷ [])) v in
        omega (arith, length-append (book_of full) (0 ∷ []), full_length)
