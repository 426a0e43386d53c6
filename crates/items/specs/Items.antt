-- The items of a line: tests, outputs, members. The sentences are document 01's.
-- Assumes nothing.
use Rattle.std.specs.Prelude.{Bool, List, [], ◌∷◌, ◌++◌, ℕ, zero, suc, eqb, get_or}
use Rattle.folds.specs.Fold.{pick, count, joined}
use Rattle.sets.specs.Sets.{has}
use Rattle.text.specs.Text.{decimal_of}

-- " none"
abbrev pub none_word : List ℕ
none_word = 32 ∷ 110 ∷ 111 ∷ 110 ∷ 101 ∷ []

-- "good"
abbrev pub good_word : List ℕ
good_word = 103 ∷ 111 ∷ 111 ∷ 100 ∷ []

-- ---- lists: each item has a space before it

unfoldable pub spaced : ℕ → List ℕ
spaced n = 32 ∷ decimal_of n

-- "An empty list, an empty signature too, prints "none"."
unfoldable pub list_text : (ℕ → Bool) → (ℕ → List ℕ) → ℕ → List ℕ
list_text p item n = pick (eqb (count p n) 0) none_word (joined p item n)

-- the tests of s, in rising order
unfoldable pub tests_text : ℕ → ℕ → List ℕ
tests_text s tests = list_text (has s) spaced tests

unfoldable pub output_item : (ℕ → ℕ → ℕ) → ℕ → ℕ → List ℕ
output_item out c t = spaced (out t c)

-- the signature of column c under s
unfoldable pub signature_text : (ℕ → ℕ → ℕ) → ℕ → ℕ → ℕ → List ℕ
signature_text out tests s c = list_text (has s) (output_item out c) tests

-- "its members in rising column number, "good" or line/stuck value"
unfoldable pub member_text : List ℕ → List ℕ → ℕ → List ℕ
member_text lines stuck zero = 32 ∷ good_word
member_text lines stuck (suc f) = spaced (get_or lines f 0) ++ (47 ∷ decimal_of (get_or stuck f 0))

-- column c is of class k
unfoldable pub in_class : List ℕ → ℕ → ℕ → Bool
in_class of k c = eqb (get_or of c 0) k

unfoldable pub members_text : List ℕ → List ℕ → List ℕ → ℕ → ℕ → List ℕ
members_text lines stuck of n k = joined (in_class of k) (member_text lines stuck) n
