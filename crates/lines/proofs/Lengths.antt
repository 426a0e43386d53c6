-- How long the lines are at most. Assumes nothing.
use mathlib.Core.List.{List}
use mathlib.Core.Path.{refl}
use Prim.Native.Nat.{ℕ, ◌+◌, ◌≤◌, ◌<◌}
use native.Mathlib.Omega.{arith}
use lib.ListN.{length, length-append}
use Rattle.table.proofs.Stored.{cell_byte}
use Rattle.classes.proofs.Meaning.{count_given}
use Rattle.classes.specs.Classes.{answer_classes, classes_of}
use Rattle.folds.specs.Fold.{always, first}
use Rattle.folds.proofs.Lengths.{length_of, rows_total, total_most}
use Rattle.items.proofs.Lengths.{members_length, members_most, signature_most, spaced_most, tests_most}
use Rattle.items.specs.Items.{in_class}
use Rattle.lines.specs.Text.{aside_word, class_head, class_line, class_lines, class_tail, detect_word, diagnose_word, essential_word, refused_text, set_line, set_lines, sizes_line, table_text}
use Rattle.table.proofs.Tested.{tested}
use Rattle.table.specs.Table.{columns, output_at}
use Rattle.table.specs.WellFormed.{OfType, WellFormed}
use Rattle.table.specs.declared.Classes.{Classes}
use Rattle.table.specs.declared.Table.{Table}
use Rattle.terms_laws.proofs.Classes.{few_classes}

-- 30 for the sizes, 320 for the four sets, 109 for each of 61 classes without its members, 365 for all members
abbrev pub longest : ℕ
longest = 7364

module _ (tb : Table) (w : WellFormed tb) (o : OfType tb) where
  -- ---- lines

  class_most : (of : List ℕ) (s k : ℕ) → k < 61 → length (class_line tb of s k) ≤ 109 + members_length tb.lines tb.stuck of (columns tb) k
  unfolding class_line class_head class_tail
  class_most of s k h = simp length-append (omega (
    arith,
    spaced_most 1 k (omega arith),
    signature_most (output_at tb) tb.tests s (first (in_class of k) (columns tb)) w.tests_fit (cell_byte tb.cells o.cells_bytes),
  ))

  classes_most : (of : List ℕ) (s n : ℕ) → n ≤ 61 → length (class_lines tb of s n) ≤ 7014
  unfolding class_lines length_of
  classes_most of s n h = omega (
    arith,
    rows_total always (class_line tb of s) n,
    total_most (length_of (class_line tb of s)) (members_length tb.lines tb.stuck of (columns tb)) 109 n (λ k l. class_most of s k (omega arith)),
    members_most tb.lines tb.stuck of tb.faults n w.faults_fit o.lines_bytes w.stuck_fit,
  )

  set_most : (word : List ℕ) (s : ℕ) → length (set_line word s tb.tests) ≤ length word + 73
  unfolding set_line
  set_most word s = simp length-append (omega (arith, tests_most s tb.tests w.tests_fit))

  sets_most : (aside essential detect diagnose : ℕ) → length (set_lines tb.tests aside essential detect diagnose) ≤ 320
  unfolding set_lines
  sets_most aside essential detect diagnose = simp length-append (omega (
    arith,
    set_most aside_word aside,
    set_most essential_word essential,
    set_most detect_word detect,
    set_most diagnose_word diagnose,
  ))

  sizes_most : (n : ℕ) → n ≤ 61 → length (sizes_line tb.tests tb.faults n) ≤ 30
  unfolding sizes_line
  sizes_most n h = simp length-append (omega (
    arith,
    spaced_most 1 tb.tests (omega (arith, w.tests_fit)),
    spaced_most 1 tb.faults (omega (arith, w.faults_fit)),
    spaced_most 1 n (omega arith),
  ))

  abbrev classes : Classes
  classes = answer_classes (classes_of tb)

  few : classes.count ≤ 61
  few = omega (arith, count_given tb (tested tb w) (classes_of tb) refl, few_classes tb w)

  pub table_most : (aside essential detect diagnose : ℕ) → length (table_text tb aside essential detect diagnose) ≤ longest
  unfolding table_text
  table_most aside essential detect diagnose = simp length-append (omega (
    arith,
    sizes_most classes.count few,
    sets_most aside essential detect diagnose,
    classes_most classes.of diagnose classes.count few,
  ))

-- ---- a refused book

pub refused_most : (number place : ℕ) → number < 100 → place ≤ 5991 → length (refused_text number place) ≤ longest
unfolding refused_text
refused_most number place h l = simp length-append (omega (arith, spaced_most 1 number (omega arith), spaced_most 3 place (omega arith)))
