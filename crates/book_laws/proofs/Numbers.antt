-- A step gives a refusal exactly when its own condition holds, and none before it in the list. The sentences are
-- document 01's. Assumes nothing.
use mathlib.Core.Bool.{Bool, true, false, not}
use mathlib.Core.List.{List, [], ◌∷◌}
use mathlib.Core.Logic.{◌⊎◌, inl, inr, ⊎_elim}
use mathlib.Core.Path.{◌≡◌, refl}
use Prim.Native.Nat.{ℕ, ◌≤◌}
use native.Mathlib.Omega.{arith}
use borrow.Author.Tests.{leb-true, eqb-true}
use lib.Dec.{eqb, leb}
use lib.ListN.{length, get_or}
use Rattle.std.specs.Prelude.{Ok, Err, Some}
use Rattle.folds.specs.Fold.{pick, both, either}
use Rattle.folds.proofs.Bools.{clash, both_left, both_right, either_cases}
use Rattle.table.specs.Answers.{number_of}
use Rattle.table.specs.declared.Reading.{Reading}
use Rattle.table.specs.declared.Refusal.{Refusal}
use Rattle.book.specs.Reading.{read_book}
use Rattle.book.specs.Sound.{call_rule, record_at}
use Rattle.table.specs.Table.{empty_table}
use Rattle.records.specs.Step.{Check, Rule, rank_of, refused_at, first_of, test_rule, fault_rule, response_rule, end_rule, unknown_rule, edge_rule, kind_rule, rule_at, step_at}
use Rattle.records.specs.declared.Record.{Record}
use Rattle.records.specs.declared.SoFar.{SoFar}
use Rattle.records.specs.declared.Stepped.{Stepped}
use Rattle.records.proofs.Steps.{AllPast, way}
use Rattle.book_laws.specs.Refuses.{Refuses, StopsAt}
use Rattle.book_laws.proofs.Readings.{Ends, refused, accepted, ends, refused_reading}

-- ---- one lemma over a list of checks

module _ (place : ℕ) (gives : Stepped) (why : Refusal) where
  -- where the condition holds, the step is the refusal
  pub refuses_gives : (ks : List Check) → Refuses why ks → first_of ks place gives ≡ refused_at why place
  unfolding first_of
  refuses_gives [] r = absurd r
  refuses_gives (k ∷ ks) (inl (h, e)) = rw (h, e)
  refuses_gives (k ∷ ks) (inr (h, r)) = rw h (refuses_gives ks r)

  -- and where the step is the refusal, the condition holds, if it is not what follows the checks
  pub gives_refuses : (ks : List Check) → (AllPast ks → gives.outcome ≡ Err why → ⊥) → (first_of ks place gives).outcome ≡ Err why → Refuses why ks
  unfolding first_of
  gives_refuses [] n e = n tt e
  gives_refuses (k ∷ ks) n e = go k.holds refl e (gives_refuses ks)
    where
      go : (b : Bool) → k.holds ≡ b → (pick b (refused_at k.why place) (first_of ks place gives)).outcome ≡ Err why
          → ((AllPast ks → gives.outcome ≡ Err why → ⊥) → (first_of ks place gives).outcome ≡ Err why → Refuses why ks) → Refuses why (k ∷ ks)
      go true h e ih = inl (h, cc)
      go false h e ih = inr (h, ih (λ past q. n (h, past) q) e)

-- ---- the numbers of a list of checks

abbrev all_of : (ℕ → Bool) → List Check → Bool
all_of p [] = true
all_of p (k ∷ ks) = both (p (number_of k.why)) (all_of p ks)

one_of : (p : ℕ → Bool) (why : Refusal) (ks : List Check) → all_of p ks ≡ true → Refuses why ks → p (number_of why) ≡ true
one_of p why [] n r = absurd r
one_of p why (k ∷ ks) n (inl (h, e)) = rw (← e) (both_left (p (number_of k.why)) (all_of p ks) n)
one_of p why (k ∷ ks) n (inr (h, r)) = one_of p why ks (both_right (p (number_of k.why)) (all_of p ks) n) r

-- the numbers of a record: 1 to 11, but for 3
abbrev of_record : ℕ → Bool
of_record n = both (leb n 11) (not (eqb n 3))

-- those of a book's end: 3 and 12
abbrev of_edge : ℕ → Bool
of_edge n = either (eqb n 3) (eqb n 12)

-- a rule has such numbers, and no refusal follows its checks that none of them gives
record Right (p : ℕ → Bool) (r : Rule) : Type 0 where
  numbered : all_of p r.checks ≡ true
  follows : (why : Refusal) → AllPast r.checks → r.gives.outcome ≡ Err why → ⊥

given_not : (r : Record) (why : Refusal) → Ok (Some r) ≡ Err why → ⊥
given_not r why e = cc

module _ (book : List ℕ) (place : ℕ) (sofar : SoFar) where
  test_right : Right of_record (test_rule book place sofar)
  unfolding test_rule
  test_right = record { numbered = refl; follows = λ why k q. given_not _ why q }

  fault_right : Right of_record (fault_rule book place sofar)
  unfolding fault_rule
  fault_right = record { numbered = refl; follows = λ why k q. given_not _ why q }

  response_right : Right of_record (response_rule book place sofar)
  unfolding response_rule
  response_right = record { numbered = refl; follows = λ why k q. given_not _ why q }

  end_right : Right of_record (end_rule book place sofar)
  unfolding end_rule
  end_right = record { numbered = refl; follows = λ why k q. given_not _ why q }

  unknown_right : Right of_record (unknown_rule book place sofar)
  unfolding unknown_rule
  unknown_right = record { numbered = refl; follows = λ why k q. clash true refl k.0 }

  edge_right : Right of_edge (edge_rule book place sofar)
  unfolding edge_rule
  edge_right = record { numbered = refl; follows = λ why k q. cc }

  kind_right : (kind : ℕ) → Right of_record (kind_rule book place sofar kind)
  unfolding kind_rule
  kind_right kind =
      way (Right of_record) (eqb kind 0x54) _ _ (λ _. test_right) λ _.
      way (Right of_record) (eqb kind 0x46) _ _ (λ _. fault_right) λ _.
      way (Right of_record) (eqb kind 0x52) _ _ (λ _. response_right) λ _.
      way (Right of_record) (eqb kind 0x45) _ _ (λ _. end_right) λ _.
      unknown_right

  rule_follows : (why : Refusal) → AllPast (rule_at book place sofar).checks → (rule_at book place sofar).gives.outcome ≡ Err why → ⊥
  unfolding rule_at
  rule_follows why =
      way (λ (r : Rule). AllPast r.checks → r.gives.outcome ≡ Err why → ⊥)
      (either (leb (length book) place) (eqb (rank_of sofar.stage) 3)) _ _ (λ _. edge_right.follows why) (λ _. (kind_right (get_or book place 0)).follows why)

  -- ---- "Given exactly when"

  pub step_refuses : (why : Refusal) → Refuses why (rule_at book place sofar).checks → step_at book place sofar ≡ refused_at why place
  unfolding step_at
  step_refuses why r = refuses_gives place (rule_at book place sofar).gives why (rule_at book place sofar).checks r

  pub refuses_step : (why : Refusal) → (step_at book place sofar).outcome ≡ Err why → Refuses why (rule_at book place sofar).checks
  unfolding step_at
  refuses_step why e = gives_refuses place (rule_at book place sofar).gives why (rule_at book place sofar).checks (rule_follows why) e

  -- with the call's own checks before them
  pub call_refuses : (why : Refusal) → Refuses why (call_rule book place sofar).checks → record_at book place sofar ≡ refused_at why place
  unfolding record_at
  call_refuses why r = refuses_gives place (call_rule book place sofar).gives why (call_rule book place sofar).checks r

  pub refuses_call : (why : Refusal) → (record_at book place sofar).outcome ≡ Err why → Refuses why (call_rule book place sofar).checks
  unfolding record_at call_rule
  refuses_call why e = gives_refuses place (call_rule book place sofar).gives why (call_rule book place sofar).checks (λ k q. rule_follows why k.1.1 q) e

  -- ---- where a refusal is given: at the book's end or past the end record, or for a record

  abbrev pub EdgeOr : Refusal → Type 0
  EdgeOr why =
      (((length book ≤ place) ⊎ (eqb (rank_of sofar.stage) 3 ≡ true)) × Refuses why (edge_rule book place sofar).checks)
      ⊎ (of_record (number_of why) ≡ true)

  pub edge_or : (why : Refusal) → Refuses why (rule_at book place sofar).checks → EdgeOr why
  unfolding rule_at
  edge_or why = go (leb (length book) place) (eqb (rank_of sofar.stage) 3) refl refl
    where
      go : (a b : Bool) → leb (length book) place ≡ a → eqb (rank_of sofar.stage) 3 ≡ b → Refuses why (pick (either a b) (edge_rule book place sofar) (kind_rule book place sofar (get_or book place 0))).checks → EdgeOr why
      go true b l u r = inl (inl (leb-true (length book) place l), r)
      go false true l u r = inl (inr u, r)
      go false false l u r = inr (one_of of_record why (kind_rule book place sofar (get_or book place 0)).checks (kind_right (get_or book place 0)).numbered r)

  -- a step gives no other number than 1 to 12
  pub step_number : (why : Refusal) → Refuses why (rule_at book place sofar).checks → number_of why ≤ 12
  step_number why r = go (edge_or why r)
    where
      go : EdgeOr why → number_of why ≤ 12
      go (inl (_, e)) = ⊎_elim (λ h. omega (arith, eqb-true (number_of why) 3 h)) (λ h. omega (arith, eqb-true (number_of why) 12 h)) (either_cases _ _ (one_of of_edge why (edge_rule book place sofar).checks edge_right.numbered e))
      go (inr n) = omega (arith, leb-true (number_of why) 11 (both_left (leb (number_of why) 11) _ n))

-- ---- a whole book: reading got to the place, and there the refusal is given

pub reading_stops : (book : List ℕ) (why : Refusal) → (read_book book).verdict ≡ Err why → StopsAt book why (read_book book).place
reading_stops book why h = go (ends book) h
  where
    go : {r : Reading} → Ends book r → r.verdict ≡ Err why → StopsAt book why r.place
    go (refused {place} {sofar} x w e) q =
        let same : w ≡ why = cc in
        record { sofar = sofar; reached = x; refuses = refuses_step book place sofar why (rw (e, same)) }
    go (accepted x l u e) q = cc

pub stops_reading : (book : List ℕ) (why : Refusal) (place : ℕ) → StopsAt book why place → read_book book ≡ record { verdict = Err why; place = place; table = empty_table }
stops_reading book why place r = refused_reading r.reached why (step_refuses book place r.sofar why r.refuses)
