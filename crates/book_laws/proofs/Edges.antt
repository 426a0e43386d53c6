-- Where a book stops short, and where bytes follow its end record. The sentences are document 01's. Assumes nothing.
use mathlib.Core.Bool.{true, false}
use mathlib.Core.List.{List}
use mathlib.Core.Logic.{inl, inr}
use mathlib.Core.Path.{◌≡◌, refl, ◌∙◌}
use Prim.Native.Nat.{ℕ, ◌≤◌, ◌<◌}
use native.Mathlib.Omega.{arith}
use borrow.Author.Tests.{ltb-true, not-true, not-false}
use lib.Dec.{eqb}
use lib.ListN.{length}
use Rattle.std.specs.Prelude.{Err}
use Rattle.folds.proofs.Bools.{clash}
use Rattle.table.specs.declared.Refusal.TheVariants.{NoEnd, BytesFollow}
use Rattle.book.specs.Reading.{read_book}
use Rattle.records.specs.Step.{rank_of, edge_rule}
use Rattle.records.specs.declared.SoFar.{SoFar}
use Rattle.book_laws.specs.Refuses.{StopsAt, AfterEnd}
use Rattle.book_laws.proofs.Good.{ended, reached_good}
use Rattle.book_laws.proofs.Numbers.{EdgeOr, edge_or, reading_stops}

module _ (book : List ℕ) (place : ℕ) (sofar : SoFar) where
  -- 3 is given where the book stops
  over : EdgeOr book place sofar NoEnd → length book ≤ place
  unfolding edge_rule
  over (inl (inl l, r)) = l
  over (inl (inr u, inl (h, q))) = clash (eqb (rank_of sofar.stage) 3) u (not-true (eqb (rank_of sofar.stage) 3) h)
  over (inl (inr u, inr (h, inl (l, q)))) = cc
  over (inl (inr u, inr (h, inr r))) = absurd r.1
  over (inr n) = clash false n refl

  -- 12 past the end record
  past : EdgeOr book place sofar BytesFollow → (eqb (rank_of sofar.stage) 3 ≡ true) × (place < length book)
  unfolding edge_rule
  past (inl (u, inl (h, q))) = cc
  past (inl (u, inr (h, inl (l, q)))) = (not-false (eqb (rank_of sofar.stage) 3) h, ltb-true place (length book) l)
  past (inl (u, inr (h, inr r))) = absurd r.1
  past (inr n) = clash false n refl

-- "For 3 the place is the book's length"
pub no_end_place : (book : List ℕ) → (read_book book).verdict ≡ Err NoEnd → (read_book book).place ≡ length book
no_end_place book h = go (reading_stops book NoEnd h)
  where
    go : {place : ℕ} → StopsAt book NoEnd place → place ≡ length book
    go {place} s = omega (arith, over book place s.sofar (edge_or book place s.sofar NoEnd s.refuses), (reached_good s.reached).inside)

-- "for 12 it is that of the byte after the end record"
pub bytes_follow_place : (book : List ℕ) → (read_book book).verdict ≡ Err BytesFollow → AfterEnd book (read_book book).place
bytes_follow_place book h = go (reading_stops book BytesFollow h)
  where
    go : {place : ℕ} → StopsAt book BytesFollow place → AfterEnd book place
    go {place} s =
        let p = past book place s.sofar (edge_or book place s.sofar BytesFollow s.refuses) in
        let g = reached_good s.reached in
        record { table = s.sofar.table; formed = g.formed; before = g.taken ∙ ended s.sofar.stage s.sofar.table p.0; more = p.1 }
