-- The small books that document 01 marks with a star, under its sentences. A set of tests is the sum of 2 ^ t over its tests t.
-- Assumes nothing.
use Rattle.std.specs.Prelude.{List, [], ◌∷◌, ℕ, ◌+◌, ◌^◌, Ok, Err}
use Rattle.table.specs.declared.Goal.TheVariants.{Detect, Diagnose}
use Rattle.table.specs.declared.Refusal.TheVariants.{NoneWithinCap}
use Rattle.small_books.specs.Claim.{Saying, classes, choice, aside, capped, Entry}

-- the number and the place of a refused reading
abbrev refused : List ℕ → ℕ → ℕ → Entry
refused book number place = record { book = book; number = number; place = place; says = [] }

-- "An accepted reading gives number 0, the book's length as place, and the table."
abbrev accepted : List ℕ → ℕ → List Saying → Entry
accepted book place says = record { book = book; number = 0; place = place; says = says }

-- "Two tests, correct 0 0; fault a gives 1 1, fault b gives 1 2"
abbrev two_faults : List ℕ
two_faults =
    0x54 ∷ 0x00 ∷ 0x54 ∷ 0x00
    ∷ 0x46 ∷ 0x01 ∷ 0x00 ∷ 0x46 ∷ 0x02 ∷ 0x00
    ∷ 0x52 ∷ 0x00 ∷ 0x00 ∷ 0x01 ∷ 0x52 ∷ 0x01 ∷ 0x00 ∷ 0x01
    ∷ 0x52 ∷ 0x00 ∷ 0x01 ∷ 0x01 ∷ 0x52 ∷ 0x01 ∷ 0x01 ∷ 0x02
    ∷ 0x45 ∷ 0x02 ∷ 0x02 ∷ []

-- "Two equal tests and one fault they see"
abbrev pub equal_tests : List ℕ
equal_tests =
    0x54 ∷ 0x00 ∷ 0x54 ∷ 0x00
    ∷ 0x46 ∷ 0x01 ∷ 0x00
    ∷ 0x52 ∷ 0x00 ∷ 0x00 ∷ 0x01 ∷ 0x52 ∷ 0x01 ∷ 0x00 ∷ 0x01
    ∷ 0x45 ∷ 0x02 ∷ 0x01 ∷ []

-- "Six faults; test 0 sees the 1st, 2nd, 4th, 5th, test 1 the first three, test 2 the last three"
abbrev six_faults : List ℕ
six_faults =
    0x54 ∷ 0x00 ∷ 0x54 ∷ 0x00 ∷ 0x54 ∷ 0x00
    ∷ 0x46 ∷ 0x01 ∷ 0x00 ∷ 0x46 ∷ 0x02 ∷ 0x00 ∷ 0x46 ∷ 0x03 ∷ 0x00
    ∷ 0x46 ∷ 0x04 ∷ 0x00 ∷ 0x46 ∷ 0x05 ∷ 0x00 ∷ 0x46 ∷ 0x06 ∷ 0x00
    ∷ 0x52 ∷ 0x00 ∷ 0x00 ∷ 0x01 ∷ 0x52 ∷ 0x01 ∷ 0x00 ∷ 0x01
    ∷ 0x52 ∷ 0x00 ∷ 0x01 ∷ 0x01 ∷ 0x52 ∷ 0x01 ∷ 0x01 ∷ 0x01
    ∷ 0x52 ∷ 0x01 ∷ 0x02 ∷ 0x01
    ∷ 0x52 ∷ 0x00 ∷ 0x03 ∷ 0x01 ∷ 0x52 ∷ 0x02 ∷ 0x03 ∷ 0x01
    ∷ 0x52 ∷ 0x00 ∷ 0x04 ∷ 0x01 ∷ 0x52 ∷ 0x02 ∷ 0x04 ∷ 0x01
    ∷ 0x52 ∷ 0x02 ∷ 0x05 ∷ 0x01
    ∷ 0x45 ∷ 0x03 ∷ 0x06 ∷ []

unfoldable pub small_books : List Entry
small_books =
    -- "`45 00 00`: one class, both choices empty."
    accepted (0x45 ∷ 0x00 ∷ 0x00 ∷ []) 3 (classes 1 ∷ choice Detect 0 ∷ choice Diagnose 0 ∷ [])
    -- "`54 07 45 01 00`: choices empty, test 0 set aside."
    ∷ accepted (0x54 ∷ 0x07 ∷ 0x45 ∷ 0x01 ∷ 0x00 ∷ []) 5
    (choice Detect 0 ∷ choice Diagnose 0 ∷ aside Detect (2 ^ 0) ∷ aside Diagnose (2 ^ 0) ∷ [])
    -- "`54 00 46 01 00 52 00 00 01 45 01 01`: choice {0}; cap 0 gives 23, cap 1 doesn't."
    ∷ accepted (0x54 ∷ 0x00 ∷ 0x46 ∷ 0x01 ∷ 0x00 ∷ 0x52 ∷ 0x00 ∷ 0x00 ∷ 0x01 ∷ 0x45 ∷ 0x01 ∷ 0x01 ∷ []) 12
    (choice Detect (2 ^ 0) ∷ capped Detect 0 (Err NoneWithinCap) ∷ capped Detect 1 (Ok (2 ^ 0))
    ∷ choice Diagnose (2 ^ 0) ∷ capped Diagnose 0 (Err NoneWithinCap) ∷ capped Diagnose 1 (Ok (2 ^ 0)) ∷ [])
    -- "The same without its response: one class, choices empty."
    ∷ accepted (0x54 ∷ 0x00 ∷ 0x46 ∷ 0x01 ∷ 0x00 ∷ 0x45 ∷ 0x01 ∷ 0x01 ∷ []) 8
    (classes 1 ∷ choice Detect 0 ∷ choice Diagnose 0 ∷ [])
    -- "detect {0}, diagnose {1}, none set aside for diagnose."
    ∷ accepted two_faults 29 (choice Detect (2 ^ 0) ∷ choice Diagnose (2 ^ 1) ∷ aside Diagnose 0 ∷ [])
    -- "{0}, test 1 set aside."
    ∷ accepted equal_tests 18 (choice Detect (2 ^ 0) ∷ choice Diagnose (2 ^ 0) ∷ aside Detect (2 ^ 1) ∷ aside Diagnose (2 ^ 1) ∷ [])
    -- "detect {1, 2}."
    ∷ accepted six_faults 67 (choice Detect (2 ^ 1 + 2 ^ 2) ∷ [])
    -- "Empty input: 3 at 0."
    ∷ refused [] 3 0
    -- "`45 00`: 2 at 0."
    ∷ refused (0x45 ∷ 0x00 ∷ []) 2 0
    -- "`45 00 00 45`: 12 at 3."
    ∷ refused (0x45 ∷ 0x00 ∷ 0x00 ∷ 0x45 ∷ []) 12 3
    -- "`46 01 00 54 00`: 4 at 3."
    ∷ refused (0x46 ∷ 0x01 ∷ 0x00 ∷ 0x54 ∷ 0x00 ∷ []) 4 3
    ∷ []
