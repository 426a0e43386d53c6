-- The text that pick prints, as bytes. The sentences are document 01's.
-- Assumes nothing.
use Rattle.std.specs.Prelude.{List, [], ◌∷◌, ◌++◌, ℕ, ◌<◌}
use Rattle.classes.specs.Classes.{answer_classes, classes_of}
use Rattle.folds.specs.Fold.{always, first, joined}
use Rattle.items.specs.Items.{in_class, members_text, signature_text, spaced, tests_text}
use Rattle.table.specs.Table.{output_at, columns}
use Rattle.table.specs.declared.Table.{Table}

-- ---- words

-- "tests"
abbrev pub tests_word : List ℕ
tests_word = 116 ∷ 101 ∷ 115 ∷ 116 ∷ 115 ∷ []

-- " faults"
abbrev pub faults_word : List ℕ
faults_word = 32 ∷ 102 ∷ 97 ∷ 117 ∷ 108 ∷ 116 ∷ 115 ∷ []

-- " classes"
abbrev pub classes_word : List ℕ
classes_word = 32 ∷ 99 ∷ 108 ∷ 97 ∷ 115 ∷ 115 ∷ 101 ∷ 115 ∷ []

-- "aside"
abbrev pub aside_word : List ℕ
aside_word = 97 ∷ 115 ∷ 105 ∷ 100 ∷ 101 ∷ []

-- "essential"
abbrev pub essential_word : List ℕ
essential_word = 101 ∷ 115 ∷ 115 ∷ 101 ∷ 110 ∷ 116 ∷ 105 ∷ 97 ∷ 108 ∷ []

-- "detect"
abbrev pub detect_word : List ℕ
detect_word = 100 ∷ 101 ∷ 116 ∷ 101 ∷ 99 ∷ 116 ∷ []

-- "diagnose"
abbrev pub diagnose_word : List ℕ
diagnose_word = 100 ∷ 105 ∷ 97 ∷ 103 ∷ 110 ∷ 111 ∷ 115 ∷ 101 ∷ []

-- "class"
abbrev pub class_word : List ℕ
class_word = 99 ∷ 108 ∷ 97 ∷ 115 ∷ 115 ∷ []

-- " :"
abbrev pub colon_word : List ℕ
colon_word = 32 ∷ 58 ∷ []

-- "refused"
abbrev pub refused_word : List ℕ
refused_word = 114 ∷ 101 ∷ 102 ∷ 117 ∷ 115 ∷ 101 ∷ 100 ∷ []

-- " at"
abbrev pub at_word : List ℕ
at_word = 32 ∷ 97 ∷ 116 ∷ []

abbrev pub newline : List ℕ
newline = 10 ∷ []

-- each class number below `count` is some column's
pub record Numbered (tb : Table) (of : List ℕ) (count : ℕ) : Type 0 where
  pub has : (k : ℕ) → k < count → first (in_class of k) (columns tb) < columns tb

-- ---- lines

-- "sizes"
unfoldable pub sizes_line : ℕ → ℕ → ℕ → List ℕ
sizes_line tests faults classes =
    tests_word ++ (spaced tests ++ (faults_word ++ (spaced faults ++ (classes_word ++ (spaced classes ++ newline)))))

-- "set-aside and essential tests for diagnose; the two choices": a word and the tests of a set
unfoldable pub set_line : List ℕ → ℕ → ℕ → List ℕ
set_line word s tests = word ++ (tests_text s tests ++ newline)

unfoldable pub class_head : ℕ → List ℕ
class_head k = class_word ++ (spaced k ++ colon_word)

unfoldable pub class_tail : Table → List ℕ → ℕ → List ℕ
class_tail tb of k = colon_word ++ (members_text tb.lines tb.stuck of (columns tb) k ++ newline)

-- "Then each class: its signature under the diagnose choice, and its members": of class k, whose lowest column is the first
-- that has its number
unfoldable pub class_line : Table → List ℕ → ℕ → ℕ → List ℕ
class_line tb of s k =
    class_head k ++ (signature_text (output_at tb) tb.tests s (first (in_class of k) (columns tb)) ++ class_tail tb of k)

unfoldable pub class_lines : Table → List ℕ → ℕ → ℕ → List ℕ
class_lines tb of s n = joined always (class_line tb of s) n

unfoldable pub set_lines : ℕ → ℕ → ℕ → ℕ → ℕ → List ℕ
set_lines tests aside essential detect diagnose =
    set_line aside_word aside tests
    ++ (set_line essential_word essential tests
    ++ (set_line detect_word detect tests
    ++ set_line diagnose_word diagnose tests))

-- the text of a table with its set-aside and essential tests and its two choices
unfoldable pub table_text : Table → ℕ → ℕ → ℕ → ℕ → List ℕ
table_text tb aside essential detect diagnose =
    let classes = answer_classes (classes_of tb) in
    sizes_line tb.tests tb.faults classes.count
    ++ (set_lines tb.tests aside essential detect diagnose
    ++ class_lines tb classes.of diagnose classes.count)

-- "A refused book prints one line, "refused 8 at 0", number and place."
unfoldable pub refused_text : ℕ → ℕ → List ℕ
refused_text number place = refused_word ++ (spaced number ++ (at_word ++ (spaced place ++ newline)))
