-- The reader accepts the books of well-formed tables, and no others. Assumes nothing.
use mathlib.Core.List.{List, [], ◌++◌}
use mathlib.Core.Path.{◌≡◌, refl, sym, ap, ◌∙◌}
use Prim.Native.Nat.{ℕ, ◌≤◌}
use native.Mathlib.Omega.{arith}
use borrow.Author.Tests.{le-leb, le-ltb}
use lib.ListN.{length, length-drop}
use lib.Seq.{take_all}
use Rattle.std.specs.Prelude.{Ok}
use Rattle.table.specs.WellFormed.{WellFormed, OfType}
use Rattle.table.specs.declared.Reading.{Reading}
use Rattle.table.specs.declared.Table.{Table}
use Rattle.book.specs.BookOf.{book_of}
use Rattle.book.specs.Given.{Bytes, Reached}
use Rattle.book.specs.Reading.{read_book}
use Rattle.records.specs.Step.{record_bytes, rank_of, accepted_at, first_of, edge_rule, rule_at, step_at}
use Rattle.records.specs.declared.Record.TheVariants.{End}
use Rattle.records.specs.declared.Stage.{Stage}
use Rattle.records.specs.declared.Stage.TheVariants.{Ended}
use Rattle.book_laws.specs.Accepts.{Accepts}
use Rattle.book_laws.proofs.Along.{so, Along, go_on, end_step}
use Rattle.book_laws.proofs.Good.{ended, reached_good}
use Rattle.book_laws.proofs.Grown.{Long}
use Rattle.book_laws.proofs.Readings.{Ends, refused, accepted, ends, accepted_reading}
use Rattle.book_laws.proofs.Round.{run}

-- ---- an accepted book is its table's
-- what an accepted book gave; its table is of the type where the book is made of bytes
pub record Gave (book : List ℕ) (tb : Table) : Type 0 where
  pub formed : WellFormed tb
  pub typed : Bytes book → OfType tb
  pub is_book : book ≡ book_of tb

pub accepted_gave : (book : List ℕ) (tb : Table) → Accepts book tb → Gave book tb
accepted_gave book tb h = go (ends book) h
  where
    go : {r : Reading} → Ends book r → r ≡ record { verdict = Ok tt; place = length book; table = tb } → Gave book tb
    go (refused x why e) q =
        let v = ap (λ (r : Reading). r.verdict) q in
        cc
    go (accepted {place} {sofar} x l u e) q =
        let g = reached_good x in
        let same : sofar.table ≡ tb = ap (λ (r : Reading). r.table) q in
        record {
          formed = rw same at g.formed;
          typed = λ b. rw same at (g.typed b);
          is_book = rw same at (sym (take_all place book l) ∙ g.taken ∙ ended sofar.stage sofar.table u);
        }

-- an accepted verdict comes with the book's length
pub accepts_whole : (book : List ℕ) → (read_book book).verdict ≡ Ok tt → Accepts book (read_book book).table
accepts_whole book h = go (ends book) h
  where
    go : {r : Reading} → Ends book r → r.verdict ≡ Ok tt → r ≡ record { verdict = Ok tt; place = length book; table = r.table }
    go (refused x why e) q = cc
    go (accepted {place} {sofar} x l u e) q =
        let p : place ≡ length book = omega (arith, (reached_good x).inside) in
        rw p refl

-- ---- the book of a well-formed table is accepted

accepts_edge : (book : List ℕ) (place : ℕ) (tb : Table) → length book ≡ place → step_at book place (so tb Ended) ≡ accepted_at place (so tb Ended)
unfolding step_at rule_at edge_rule first_of
accepts_edge book place tb e = rw (le-leb (length book) place (omega arith), le-ltb place (length book) (omega arith))

module _ (tb : Table) (w : WellFormed tb) (o : Long tb) where
  abbrev Whole : Stage → Table → Type 0
  Whole s u = (u ≡ tb) × (s ≡ Ended)

  -- past the end record
  pub past_end : Along (book_of tb) [] Whole
  past_end = over (run tb w o)
    where
      over : Along (book_of tb) (record_bytes (End tb.tests tb.faults) ++ []) (λ s u. (u ≡ tb) × (rank_of s ≤ 2)) → Along (book_of tb) [] Whole
      over a =
          go_on Whole (End tb.tests tb.faults) a tb Ended
          (let e = a.holds.0 in rw e (end_step (book_of tb) a.place tb a.stage [] a.left a.holds.1))
          (refl, refl)

  pub book_accepted : Accepts (book_of tb) tb
  book_accepted = over past_end
    where
      over : Along (book_of tb) [] Whole → Accepts (book_of tb) tb
      over a =
          let n = length-drop a.place (book_of tb) in
          let m = ap length a.left in
          let p : length (book_of tb) ≡ a.place = omega (arith, n, m, (reached_good a.reached).inside) in
          let x : Reached (book_of tb) a.place (so tb Ended) = rw (a.holds.0, a.holds.1) at a.reached in
          accepted_reading x (accepts_edge (book_of tb) a.place tb p) ∙ rw p refl
