-- The paper's numbers and values of each answer, by cases. The sentences are document 01's.
-- Assumes nothing.
use Rattle.std.specs.Prelude.{ℕ, Result, Ok, Err}
use Rattle.table.specs.declared.Refusal.{Refusal}
use Rattle.table.specs.declared.Refusal.TheVariants.{UnknownKind, BodyCut, NoEnd, OutOfPlace, TooMany, StuckValue, SameLabel, NotInBook, NotAfter, RepeatsCorrect, WrongCounts, BytesFollow, NotWellFormed, UnknownTest, CapTooHigh, NoneWithinCap, BufferShort, NotOneEach}

-- "No. | Given exactly when"
abbrev pub number_of : Refusal → ℕ
-- every other value of the kind byte
number_of UnknownKind = 1
-- the body is cut short
number_of BodyCut = 2
-- the book stops at a record's edge with no end record
number_of NoEnd = 3
-- a test after a fault or response, or a fault after a response
number_of OutOfPlace = 4
-- a 25th test or a 61st fault
number_of TooMany = 5
-- stuck value above 1
number_of StuckValue = 6
-- same line and value as an earlier fault
number_of SameLabel = 7
-- a response names a test or fault that the book lacks
number_of NotInBook = 8
-- a response is not after the one before it
number_of NotAfter = 9
-- a response repeats the correct output
number_of RepeatsCorrect = 10
-- the end's counts are not those read
number_of WrongCounts = 11
-- a byte follows the end
number_of BytesFollow = 12
-- a call's table is not well formed
number_of NotWellFormed = 20
-- a given set holds a test that the table lacks
number_of UnknownTest = 21
-- a cap above 24
number_of CapTooHigh = 22
-- no set within the cap reaches the goal
number_of NoneWithinCap = 23
-- the lent buffer is shorter than the answer
number_of BufferShort = 24
-- observed outputs are not one for each test of the set
number_of NotOneEach = 25

-- "An accepted call's number is 0."
abbrev pub answer_number : {A : Type 0} → Result A Refusal → ℕ
answer_number (Ok value) = 0
answer_number (Err why) = number_of why

-- "A refused call returns the number with the empty set, list or count 0.": the set or the count of an answer
abbrev pub answer_value : Result ℕ Refusal → ℕ
answer_value (Ok value) = value
answer_value (Err why) = 0
