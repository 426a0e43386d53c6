-- The suspects for observed outputs. The sentences are document 01's.
-- Assumes nothing.
use Rattle.std.specs.Prelude.{Bool, true, false, List, [], ◌∷◌, ℕ, eqb, length, take, replicate, Result, Ok, Err}
use Rattle.folds.specs.Fold.{pick, both, count, gather, onto}
use Rattle.sets.specs.Sets.{has, within}
use Rattle.table.specs.Table.{output_at, columns}
use Rattle.table.specs.Test.{well_formed}
use Rattle.table.specs.declared.Refusal.{Refusal}
use Rattle.table.specs.declared.Refusal.TheVariants.{NotWellFormed, UnknownTest, NotOneEach}
use Rattle.table.specs.declared.Suspects.{Suspects}
use Rattle.table.specs.declared.Table.{Table}
use Rattle.terms.specs.Columns.{outputs_under}

-- the two lists are equal
unfoldable pub equal : List ℕ → List ℕ → Bool
equal [] [] = true
equal [] (y ∷ ys) = false
equal (x ∷ xs) [] = false
equal (x ∷ xs) (y ∷ ys) = both (eqb x y) (equal xs ys)

-- no column
unfoldable pub unlisted : List ℕ
unlisted = replicate 61 0

-- a column's own number
abbrev pub itself : ℕ → ℕ
itself c = c

module _ (out : ℕ → ℕ → ℕ) where
  module _ (tests s : ℕ) (seen : List ℕ) where
    -- "Suspects are all columns whose signature under the set equals the observed outputs."
    unfoldable pub suspect : ℕ → Bool
    suspect c = equal (outputs_under out tests s c) seen

    -- "They come back in the answer itself, in rising order, at most 61": zero past the last
    unfoldable pub found_under : ℕ → Suspects
    found_under n = record { count = count suspect n; columns = onto (gather suspect itself n) unlisted }

-- "20 | a call's table is not well formed", "21 | a given set holds a test that the table lacks", "25 | observed outputs are not
-- one for each test of the set", in that order
unfoldable pub suspects_of : Table → ℕ → List ℕ → Result Suspects Refusal
suspects_of tb s seen =
    pick (well_formed tb)
    (pick (within s tb.tests)
    (pick (eqb (length seen) (count (has s) tb.tests)) (Ok (found_under (output_at tb) tb.tests s seen (columns tb))) (Err NotOneEach))
    (Err UnknownTest))
    (Err NotWellFormed)

-- "A refused call returns the number with the empty set, list or count 0."
abbrev pub answer_suspects : Result Suspects Refusal → Suspects
answer_suspects (Ok suspects) = suspects
answer_suspects (Err why) = record { count = 0; columns = unlisted }

-- the columns that an answer lists: as many as its count
abbrev pub answer_list : Result Suspects Refusal → List ℕ
answer_list (Ok suspects) = take suspects.count suspects.columns
answer_list (Err why) = []
