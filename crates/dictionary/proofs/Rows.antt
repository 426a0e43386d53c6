-- The rows of the dictionary, and how many bytes they are. Assumes nothing.
use mathlib.Core.Path.{◌≡◌, sym, ◌∙◌}
use Prim.Native.Nat.{ℕ, ◌*◌, ◌≤◌}
use native.Mathlib.Nat.{mul-le-mul, lt_of_le_of_lt}
use native.Mathlib.Omega.{arith}
use lib.Dec.{lit<}
use lib.ListN.{length}
use mir.Syntax.{w64}
use mir.Val.{Fits}
use Rattle.folds.specs.Fold.{count}
use Rattle.folds.proofs.Count.{count_le}
use Rattle.folds.proofs.Gather.{gather_length}
use Rattle.folds.proofs.Joined.{joined_rows}
use Rattle.sets.specs.Sets.{has}
use Rattle.table.specs.Table.{output_at, columns}
use Rattle.lent.specs.declared.given.Given.{Given}
use Rattle.terms.specs.Columns.{lowest, output_of, outputs_under}
use Rattle.terms.specs.Terms.{class_count}
use Rattle.dictionary.specs.Dictionary.{rows_under, dictionary_of}

module _ (out : ℕ → ℕ → ℕ) (tests s : ℕ) where
  -- each row has a byte for each test of the set
  pub row_length : (c : ℕ) → length (outputs_under out tests s c) ≡ count (has s) tests
  row_length c = gather_length (has s) (output_of out c) tests

  pub row_size : (n c : ℕ) → n ≡ count (has s) tests → n ≡ length (outputs_under out tests s c)
  row_size n c e = e ∙ sym (row_length c)

  -- k rows of n bytes
  pub rows_size : (k n m : ℕ) → k ≡ count (lowest out tests) m → n ≡ count (has s) tests → k * n ≡ length (rows_under out tests s m)
  rows_size k n m ek en = rw (ek, en) (sym (joined_rows (lowest out tests) (outputs_under out tests s) (count (has s) tests) m row_length))

-- the dictionary of k classes and n tests, and how many bytes it has
module _ (g : Given) (n k : ℕ) (en : n ≡ count (has g.set) g.table.table.tests) (ek : k ≡ class_count g.table.table) where
  pub dictionary_size : k * n ≡ length (dictionary_of g.table.table g.set)
  dictionary_size = rows_size (output_at g.table.table) g.table.table.tests g.set k n (columns g.table.table) ek en

  pub dictionary_fits : (room : ℕ) → k * n ≤ room → length (dictionary_of g.table.table g.set) ≤ room
  dictionary_fits room h = rw (← dictionary_size) h

  pub bytes_fit : Fits w64 (k * n)
  bytes_fit =
      let a : k ≤ 61 = omega (arith, g.table.faults_fit, count_le (lowest (output_at g.table.table) g.table.table.tests) (columns g.table.table)) in
      let b : n ≤ 24 = omega (arith, g.table.tests_fit, count_le (has g.set) g.table.table.tests) in
      record { fits = lt_of_le_of_lt (mul-le-mul a b) (lit< tt) }
