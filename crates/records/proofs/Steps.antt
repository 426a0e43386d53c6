-- What a step does: it refuses, accepts after the end record, or gives a record. Every theorem on steps goes by these cases.
-- Assumes nothing.
use mathlib.Core.Bool.{Bool, true, false}
use mathlib.Core.List.{List, [], ◌∷◌}
use mathlib.Core.Path.{◌≡◌, refl}
use Prim.Native.Nat.{ℕ, ◌<◌, ◌≤◌}
use native.Mathlib.Omega.{arith}
use borrow.Author.Tests.{ltb-false, leb-false, eqb-true, not-false}
use lib.Dec.{eqb, leb}
use lib.ListN.{length, get_or}
use Rattle.folds.specs.Fold.{pick, either}
use Rattle.table.specs.declared.Refusal.{Refusal}
use Rattle.table.specs.declared.Refusal.TheVariants.{UnknownKind}
use Rattle.std.specs.Prelude.{Ok, Some}
use Rattle.records.specs.declared.Record.{Record}
use Rattle.records.specs.declared.SoFar.{SoFar}
use Rattle.records.specs.declared.Stepped.{Stepped}
use Rattle.records.specs.Step.{Check, Rule, CountsFit, rank_of, refused_at, accepted_at, first_of, judged, test_rule, fault_rule, response_rule, end_rule, unknown_rule, edge_rule, kind_rule, rule_at, step_at}

-- no check of the list holds
abbrev pub AllPast : List Check → Type 0
AllPast [] = Unit {0}
AllPast (k ∷ ks) = (k.holds ≡ false) × AllPast ks

-- a refusal at the record's place; or each check is past, and what follows them
pub judgement : (P : Stepped → Type 0) (ks : List Check) (place : ℕ) (gives : Stepped) → ((why : Refusal) → P (refused_at why place)) → (AllPast ks → P gives) → P (first_of ks place gives)
unfolding first_of
judgement P [] place gives f g = g tt
judgement P (k ∷ ks) place gives f g = go (judgement P ks place gives f) k.holds refl
  where
    go : ((AllPast ks → P gives) → P (first_of ks place gives)) → (b : Bool) → k.holds ≡ b → P (pick b (refused_at k.why place) (first_of ks place gives))
    go ih true h = f k.why
    go ih false h = ih (λ past. g (h, past))

-- the two ways of a test
pub way : {A : Type 0} (P : A → Type 0) (b : Bool) (x y : A) → (b ≡ true → P x) → (b ≡ false → P y) → P (pick b x y)
way P true x y f g = f refl
way P false x y f g = g refl

-- which record a step gives: its kind byte, and the checks that it passed
pub data Gives (book : List ℕ) (place : ℕ) (sofar : SoFar) : Stepped → Type 0 where
  test : get_or book place 0 ≡ 0x54 → AllPast (test_rule book place sofar).checks → Gives book place sofar (test_rule book place sofar).gives
  fault : get_or book place 0 ≡ 0x46 → AllPast (fault_rule book place sofar).checks → Gives book place sofar (fault_rule book place sofar).gives
  response : get_or book place 0 ≡ 0x52 → AllPast (response_rule book place sofar).checks → Gives book place sofar (response_rule book place sofar).gives
  ending : get_or book place 0 ≡ 0x45 → AllPast (end_rule book place sofar).checks → Gives book place sofar (end_rule book place sofar).gives

pub data Steps (book : List ℕ) (place : ℕ) (sofar : SoFar) : Stepped → Type 0 where
  refuses : (why : Refusal) → Steps book place sofar (refused_at why place)
  accepts : length book ≤ place → eqb (rank_of sofar.stage) 3 ≡ true → Steps book place sofar (accepted_at place sofar)
  gives : {s : Stepped} → place < length book → eqb (rank_of sofar.stage) 3 ≡ false → Gives book place sofar s → Steps book place sofar s

module _ (book : List ℕ) (place : ℕ) (sofar : SoFar) where
  abbrev S : Stepped → Type 0
  S = Steps book place sofar

  abbrev J : Rule → Type 0
  J r = Steps book place sofar (judged r place)

  at_edge : J (edge_rule book place sofar)
  unfolding edge_rule
  at_edge = judgement S (edge_rule book place sofar).checks place (edge_rule book place sofar).gives refuses
      λ k. accepts (ltb-false place (length book) k.1.0) (not-false (eqb (rank_of sofar.stage) 3) k.0)

  of_kind : place < length book → eqb (rank_of sofar.stage) 3 ≡ false → J (kind_rule book place sofar (get_or book place 0))
  unfolding kind_rule unknown_rule
  of_kind l u =
      way J (eqb (get_or book place 0) 0x54) _ _ (λ h. judgement S _ place _ refuses (λ k. gives l u (test (eqb-true _ _ h) k))) λ _.
      way J (eqb (get_or book place 0) 0x46) _ _ (λ h. judgement S _ place _ refuses (λ k. gives l u (fault (eqb-true _ _ h) k))) λ _.
      way J (eqb (get_or book place 0) 0x52) _ _ (λ h. judgement S _ place _ refuses (λ k. gives l u (response (eqb-true _ _ h) k))) λ _.
      way J (eqb (get_or book place 0) 0x45) _ _ (λ h. judgement S _ place _ refuses (λ k. gives l u (ending (eqb-true _ _ h) k))) λ _.
      unknown
    where
      unknown : J (unknown_rule book place sofar)
      unknown = judgement S _ place _ refuses (λ k. refuses UnknownKind)

  pub steps : Steps book place sofar (step_at book place sofar)
  unfolding step_at rule_at
  steps = go (leb (length book) place) (eqb (rank_of sofar.stage) 3) refl refl
    where
      go : (a b : Bool) → leb (length book) place ≡ a → eqb (rank_of sofar.stage) 3 ≡ b → J (pick (either a b) (edge_rule book place sofar) (kind_rule book place sofar (get_or book place 0)))
      go true b h u = at_edge
      go false true h u = at_edge
      go false false h u = of_kind (leb-false (length book) place h) u

-- what a step that gives a record keeps
pub record Goes (book : List ℕ) (place : ℕ) (s : Stepped) : Type 0 where
  pub further : place < s.place
  pub inside : s.place ≤ length book
  pub counts : CountsFit s.sofar

gives_goes : {book : List ℕ} {place : ℕ} {sofar : SoFar} {s : Stepped} → CountsFit sofar → Gives book place sofar s → Goes book place s
unfolding test_rule fault_rule response_rule end_rule
gives_goes c (test h k) = record { further = omega arith; inside = omega (arith, ltb-false); counts = record { tests = omega (arith, leb-false); faults = c.faults } }
gives_goes c (fault h k) = record { further = omega arith; inside = omega (arith, ltb-false); counts = record { tests = c.tests; faults = omega (arith, leb-false) } }
gives_goes c (response h k) = record { further = omega arith; inside = omega (arith, ltb-false); counts = record { tests = c.tests; faults = c.faults } }
gives_goes c (ending h k) = record { further = omega arith; inside = omega (arith, ltb-false); counts = record { tests = c.tests; faults = c.faults } }

pub goes : {book : List ℕ} {place : ℕ} {sofar : SoFar} {s : Stepped} → CountsFit sofar → Steps book place sofar s → (r : Record) → s.outcome ≡ Ok (Some r) → Goes book place s
goes c (refuses why) r e = cc
goes c (accepts h u) r e = cc
goes c (gives h u g) r e = gives_goes c g
