-- What the record at a place gives, or why it is refused: the refusals of each kind stand as a list, in document 01's order.
-- The sentences are document 01's.
-- Assumes nothing.
use Rattle.std.specs.Prelude.{Bool, true, false, not, List, [], ◌∷◌, ◌≡◌, ℕ, ◌+◌, ◌≤◌, ◌<◌, ltb, leb, eqb, length, get_or, take, drop, Result, Ok, Err, Some, None, MatchResult}
use Rattle.folds.specs.Fold.{pick, both, either, every}
use Rattle.table.specs.Table.{empty_table, output_at}
use Rattle.table.specs.declared.Refusal.{Refusal}
use Rattle.table.specs.declared.Refusal.TheVariants.{UnknownKind, BodyCut, NoEnd, OutOfPlace, TooMany, StuckValue, SameLabel, NotInBook, NotAfter, RepeatsCorrect, WrongCounts, BytesFollow}
use Rattle.table.specs.declared.Table.{Table}
use Rattle.grow.specs.Grow.{with_test, with_fault, with_response, differs}
use Rattle.records.specs.declared.Record.{Record}
use Rattle.records.specs.declared.Record.TheVariants.{Test, Fault, Response, End}
use Rattle.records.specs.declared.SoFar.{SoFar}
use Rattle.records.specs.declared.Stage.{Stage}
use Rattle.records.specs.declared.Stage.TheVariants.{Tests, Faults, Responses, Ended}
use Rattle.records.specs.declared.Stepped.{Stepped}

-- "A record is one byte of kind, then a body whose length the kind fixes."
abbrev pub record_bytes : Record → List ℕ
record_bytes (Test output) = 0x54 ∷ output ∷ []
record_bytes (Fault line stuck) = 0x46 ∷ line ∷ stuck ∷ []
record_bytes (Response test fault output) = 0x52 ∷ test ∷ fault ∷ output ∷ []
record_bytes (End tests faults) = 0x45 ∷ tests ∷ faults ∷ []

-- what has been read at a book's start
abbrev pub start : SoFar
start = record { table = empty_table; stage = Tests }

-- "It returns the number, the place of that record's first byte, and the empty table."
abbrev pub refused_at : Refusal → ℕ → Stepped
refused_at why place = record { outcome = Err why; place = place; sofar = start }

abbrev pub accepted_at : ℕ → SoFar → Stepped
accepted_at place sofar = record { outcome = Ok None; place = place; sofar = sofar }

-- a record, the next place, and the table and the stage then
abbrev pub given_at : Record → ℕ → Table → Stage → Stepped
given_at r next tb stage = record { outcome = Ok (Some r); place = next; sofar = record { table = tb; stage = stage } }

-- "All tests come first, then faults, then responses, then one end"
abbrev pub rank_of : Stage → ℕ
rank_of Tests = 0
rank_of Faults = 1
rank_of (Responses fault test) = 2
rank_of Ended = 3

-- "Responses rise strictly by fault, then by test.": this one does not
abbrev pub not_after : Stage → ℕ → ℕ → Bool
not_after Tests f t = false
not_after Faults f t = false
not_after (Responses fault test) f t = either (ltb f fault) (both (eqb f fault) (leb t test))
not_after Ended f t = false

-- the counts are within the sizes
pub record CountsFit (sofar : SoFar) : Type 0 where
  pub tests : sofar.table.tests ≤ 24
  pub faults : sofar.table.faults ≤ 60

-- a refusal, and whether its condition holds
pub record Check : Type 0 where
  pub why : Refusal
  pub holds : Bool

abbrev pub check : Refusal → Bool → Check
check why holds = record { why = why; holds = holds }

-- what is checked, in order, and what is given where no condition holds
pub record Rule : Type 0 where
  pub checks : List Check
  pub gives : Stepped

abbrev pub rule : List Check → Stepped → Rule
rule checks gives = record { checks = checks; gives = gives }

-- "Within a record the order is that of this list.": the first check that holds refuses
unfoldable pub first_of : List Check → ℕ → Stepped → Stepped
first_of [] place gives = gives
first_of (k ∷ ks) place gives = pick k.holds (refused_at k.why place) (first_of ks place gives)

abbrev pub judged : Rule → ℕ → Stepped
judged r place = first_of r.checks place r.gives

-- the same before the place is known: the refusal, or what is given
unfoldable pub checked : List Check → Stepped → Result Stepped Refusal
checked [] gives = Ok gives
checked (k ∷ ks) gives = pick k.holds (Err k.why) (checked ks gives)

abbrev pub tried : Rule → Result Stepped Refusal
tried r = checked r.checks r.gives

-- the n bytes behind the kind byte at a place, or that the body is cut short
abbrev pub BodyOf : List ℕ → ℕ → ℕ → Result (List ℕ) Refusal → Type 0
BodyOf book place n r = MatchResult r
    (λ body. (place + (n + 1) ≤ length book) × (body ≡ take n (drop (place + 1) book)))
    (λ why. (length book < place + (n + 1)) × (why ≡ BodyCut))

module _ (book : List ℕ) (place : ℕ) (sofar : SoFar) where
  abbrev tb : Table
  tb = sofar.table

  abbrev rank : ℕ
  rank = rank_of sofar.stage

  -- the record's bytes: its kind, then its body
  abbrev byte : ℕ → ℕ
  byte i = get_or book (place + i) 0

  -- "the body is cut short": the book has no n bytes from the place on
  abbrev cut : ℕ → Bool
  cut n = ltb (length book) (place + n)

  -- "54 hex | 1 byte | next test: its correct output"
  unfoldable pub test_rule : Rule
  test_rule = rule
      (check BodyCut (cut 2)
      -- "a test after a fault or response"
      ∷ check OutOfPlace (ltb 0 rank)
      -- "a 25th test"
      ∷ check TooMany (leb 24 tb.tests)
      ∷ [])
      (given_at (Test (byte 1)) (place + 2) (with_test tb (byte 1)) Tests)

  -- "46 hex | 2 bytes | next fault: line, stuck value"
  unfoldable pub fault_rule : Rule
  fault_rule = rule
      (check BodyCut (cut 3)
      -- "a fault after a response"
      ∷ check OutOfPlace (ltb 1 rank)
      -- "a 61st fault"
      ∷ check TooMany (leb 60 tb.faults)
      -- "stuck value above 1"
      ∷ check StuckValue (ltb 1 (byte 2))
      -- "same line and value as an earlier fault"
      ∷ check SameLabel (not (every (differs tb.lines tb.stuck (byte 1) (byte 2)) tb.faults))
      ∷ [])
      (given_at (Fault (byte 1) (byte 2)) (place + 3) (with_fault tb (byte 1) (byte 2)) Faults)

  -- "52 hex | 3 bytes | response: test, fault, output"
  unfoldable pub response_rule : Rule
  response_rule = rule
      (check BodyCut (cut 4)
      -- "a response names a test or fault that the book lacks"
      ∷ check NotInBook (leb tb.tests (byte 1))
      ∷ check NotInBook (leb tb.faults (byte 2))
      -- "a response is not after the one before it"
      ∷ check NotAfter (not_after sofar.stage (byte 2) (byte 1))
      -- "a response repeats the correct output"
      ∷ check RepeatsCorrect (eqb (output_at tb (byte 1) 0) (byte 3))
      ∷ [])
      (given_at (Response (byte 1) (byte 2) (byte 3)) (place + 4) (with_response tb (byte 1) (byte 2) (byte 3)) (Responses (byte 2) (byte 1)))

  -- "45 hex | 2 bytes | end: number of tests, number of faults"
  unfoldable pub end_rule : Rule
  end_rule = rule
      (check BodyCut (cut 3)
      -- "the end's counts are not those read"
      ∷ check WrongCounts (not (eqb (byte 1) tb.tests))
      ∷ check WrongCounts (not (eqb (byte 2) tb.faults))
      ∷ [])
      (given_at (End (byte 1) (byte 2)) (place + 3) tb Ended)

  -- "every other value of the kind byte"
  unfoldable pub unknown_rule : Rule
  unknown_rule = rule (check UnknownKind true ∷ []) (refused_at UnknownKind place)

  -- at the book's end, or past the end record
  unfoldable pub edge_rule : Rule
  edge_rule = rule
      -- "the book stops at a record's edge with no end record"
      (check NoEnd (not (eqb rank 3))
      -- "a byte follows the end"
      ∷ check BytesFollow (ltb place (length book))
      ∷ [])
      (accepted_at place sofar)

  -- by the kind byte
  unfoldable pub kind_rule : ℕ → Rule
  kind_rule kind =
      pick (eqb kind 0x54) test_rule
      (pick (eqb kind 0x46) fault_rule
      (pick (eqb kind 0x52) response_rule
      (pick (eqb kind 0x45) end_rule
      unknown_rule)))

  unfoldable pub rule_at : Rule
  rule_at = pick (either (leb (length book) place) (eqb rank 3)) edge_rule (kind_rule (get_or book place 0))

  -- the step of the cursor
  unfoldable pub step_at : Stepped
  step_at = judged rule_at place
