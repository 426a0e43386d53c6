-- The first 5,992 bytes of an input settle its reading. The sentences are document 01's. Assumes nothing.
use mathlib.Core.Bool.{Bool, true, false}
use mathlib.Core.List.{List}
use mathlib.Core.Logic.{⊎_elim}
use mathlib.Core.Path.{◌≡◌, refl, sym, ap, ◌∙◌}
use Prim.Native.Nat.{ℕ, ◌+◌, ◌<◌, ◌≤◌, min}
use native.Mathlib.Omega.{arith}
use borrow.Author.Tests.{lt-ltb, le-ltb, le-leb, lt-leb}
use lib.Dec.{eqb, ltb, leb}
use lib.ListN.{length, get_or, take, length-take}
use lib.Seq.{get_or-take}
use Rattle.folds.specs.Fold.{pick, either}
use Rattle.folds.proofs.Below.{lt_or_ge}
use Rattle.table.specs.declared.Reading.{Reading}
use Rattle.book.specs.Given.{Reached, begun, read}
use Rattle.book.specs.Reading.{read_book}
use Rattle.records.specs.Step.{rank_of, test_rule, fault_rule, response_rule, end_rule, unknown_rule, edge_rule, kind_rule, rule_at, step_at}
use Rattle.records.specs.declared.SoFar.{SoFar}
use Rattle.book_laws.proofs.Good.{Good, reached_good, open_place, any_place}
use Rattle.book_laws.proofs.Readings.{Ends, refused, accepted, ends, refused_reading, accepted_reading}

module _ (a b : List ℕ) (same : take 5992 a ≡ take 5992 b) where
  byte : (k : ℕ) → k < 5992 → get_or a k 0 ≡ get_or b k 0
  byte k h = sym (get_or-take 5992 a k 0 h) ∙ ap (λ l. get_or l k 0) same ∙ get_or-take 5992 b k 0 h

  lengths : min 5992 (length a) ≡ min 5992 (length b)
  lengths = sym (length-take 5992 a) ∙ ap length same ∙ length-take 5992 b

  -- where the book stops among them is the same
  cut : (m : ℕ) → m ≤ 5992 → ltb (length a) m ≡ ltb (length b) m
  cut m h =
      ⊎_elim
      (λ (l : length a < m). lt-ltb (length a) m l ∙ sym (lt-ltb (length b) m (omega (arith, lengths))))
      (λ (l : m ≤ length a). le-ltb (length a) m l ∙ sym (le-ltb (length b) m (omega (arith, lengths))))
      (lt_or_ge (length a) m)

  over : (k : ℕ) → k < 5992 → leb (length a) k ≡ leb (length b) k
  over k h =
      ⊎_elim
      (λ (l : k < length a). lt-leb (length a) k l ∙ sym (lt-leb (length b) k (omega (arith, lengths))))
      (λ (l : length a ≤ k). le-leb (length a) k l ∙ sym (le-leb (length b) k (omega (arith, lengths))))
      (lt_or_ge k (length a))

  follows : (k : ℕ) → k < 5992 → ltb k (length a) ≡ ltb k (length b)
  follows k h =
      ⊎_elim
      (λ (l : k < length a). lt-ltb k (length a) l ∙ sym (lt-ltb k (length b) (omega (arith, lengths))))
      (λ (l : length a ≤ k). le-ltb k (length a) l ∙ sym (le-ltb k (length b) (omega (arith, lengths))))
      (lt_or_ge k (length a))

  -- a record whose bytes are among them is judged the same
  module _ (place : ℕ) (sofar : SoFar) (h : place + 4 ≤ 5992) where
    kind_same : kind_rule a place sofar (get_or a place 0) ≡ kind_rule b place sofar (get_or b place 0)
    unfolding kind_rule test_rule fault_rule response_rule end_rule unknown_rule
    kind_same =
        rw (byte place (omega arith), byte (place + 1) (omega arith), byte (place + 2) (omega arith), byte (place + 3) (omega arith), cut (place + 2) (omega arith), cut (place + 3) (omega arith), cut (place + 4) (omega arith))

  rule_same : (place : ℕ) (sofar : SoFar) → Good a place sofar → rule_at a place sofar ≡ rule_at b place sofar
  unfolding rule_at edge_rule
  rule_same place sofar g =
      let l = any_place g in
      rw (over place (omega arith), follows place (omega arith)) (go (leb (length b) place) (eqb (rank_of sofar.stage) 3) refl)
    where
      go : (x y : Bool) → eqb (rank_of sofar.stage) 3 ≡ y → pick (either x y) (edge_rule b place sofar) (kind_rule a place sofar (get_or a place 0)) ≡ pick (either x y) (edge_rule b place sofar) (kind_rule b place sofar (get_or b place 0))
      go true y u = refl
      go false true u = refl
      go false false u = kind_same place sofar (omega (arith, open_place g u))

  step_same : {place : ℕ} {sofar : SoFar} → Reached a place sofar → step_at a place sofar ≡ step_at b place sofar
  unfolding step_at
  step_same {place} {sofar} x = rw (rule_same place sofar (reached_good x))

  reached_same : {place : ℕ} {sofar : SoFar} → Reached a place sofar → Reached b place sofar
  reached_same begun = begun
  reached_same (read {place} {sofar} x r e) =
      let q = step_same x in
      rw q (read (reached_same x) r (rw q at e))

  -- "the first 5,992 bytes of any input settle the reader's answer"
  pub settles : read_book a ≡ read_book b
  settles = go (ends a)
    where
      go : {r : Reading} → Ends a r → r ≡ read_book b
      go (refused x why e) = sym (refused_reading (reached_same x) why (sym (step_same x) ∙ e))
      go (accepted x l u e) = sym (accepted_reading (reached_same x) (sym (step_same x) ∙ e))

-- every place that a reading gives is in the book, and at most 5,991
pub place_most : (book : List ℕ) → ((read_book book).place ≤ 5991) × ((read_book book).place ≤ length book)
place_most book = go (ends book)
  where
    go : {r : Reading} → Ends book r → (r.place ≤ 5991) × (r.place ≤ length book)
    go (refused x why e) = let g = reached_good x in (any_place g, g.inside)
    go (accepted x l u e) = let g = reached_good x in (any_place g, g.inside)
