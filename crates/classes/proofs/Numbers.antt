-- The loop that numbers the columns: `next` is the number of the next new class. Assumes nothing.
use mathlib.Core.List.{List}
use mathlib.Core.Path.{◌≡◌, refl, sym, ◌∙◌}
use Prim.Native.Nat.{ℕ, ◌+◌, ◌≤◌, ◌<◌}
use native.Mathlib.Omega.{arith}
use lib.ListN.{length, get_or, set}
use Rattle.folds.specs.Fold.{always, count, listed, onto}
use Rattle.folds.proofs.Count.{count_yes, count_no}
use Rattle.folds.proofs.Gather.{gather_end, listed_start, listed_store, listed_at}
use Rattle.table.specs.Table.{output_at, columns}
use Rattle.table.specs.declared.Table.{Table}
use Rattle.terms.specs.Columns.{lowest, lowest_of, class_number}
use Rattle.terms_laws.proofs.Classes.{is_lowest, not_lowest, lowest_alike, class_same, class_of_lowest}
use Rattle.classes.specs.Classes.{unnumbered, numbers_of, classes_in}

length_unnumbered : length unnumbered ≡ 61
unfolding unnumbered
length_unnumbered = refl

module _ (out : ℕ → ℕ → ℕ) (tests : ℕ) where
  pub numbers_start : unnumbered ≡ onto (listed (class_number out tests) 0) unnumbered
  numbers_start = listed_start (class_number out tests) unnumbered

  -- a column with a lower one in its class
  pub old_next : (i low k k' : ℕ) → k ≡ count (lowest out tests) i → low ≡ lowest_of out tests i → low < i → k' ≡ k → k' ≡ count (lowest out tests) (i + 1)
  old_next i low k k' e f w g = omega (arith, count_no (lowest out tests) i (not_lowest out tests i (rw (← f) w)))

  pub old_number : (s s' : List ℕ) (i low : ℕ) → i < 61 → s ≡ onto (listed (class_number out tests) i) unnumbered → low ≡ lowest_of out tests i → low < i
      → s' ≡ set s i (get_or s low 0) → s' ≡ onto (listed (class_number out tests) (i + 1)) unnumbered
  old_number s s' i low u e f v g =
      let same : class_number out tests low ≡ class_number out tests i = rw f (sym (class_same out tests i (lowest_of out tests i) (lowest_alike out tests i))) in
      g
      ∙ rw e (listed_store (class_number out tests) i unnumbered _ (omega (arith, length_unnumbered)) (listed_at (class_number out tests) i low unnumbered v ∙ same))

  -- the lowest column of a new class
  pub new_next : (i low k k' : ℕ) → k ≡ count (lowest out tests) i → low ≡ lowest_of out tests i → i ≤ low → k' ≡ k + 1 → k' ≡ count (lowest out tests) (i + 1)
  new_next i low k k' e f w g = omega (arith, count_yes (lowest out tests) i (is_lowest out tests i (rw (← f) w)))

  pub new_number : (s s' : List ℕ) (i low k : ℕ) → i < 61 → s ≡ onto (listed (class_number out tests) i) unnumbered → low ≡ lowest_of out tests i → i ≤ low
      → k ≡ count (lowest out tests) i → s' ≡ set s i k → s' ≡ onto (listed (class_number out tests) (i + 1)) unnumbered
  new_number s s' i low k u e f v q g =
      g
      ∙ rw e (listed_store (class_number out tests) i unnumbered k (omega (arith, length_unnumbered)) (q ∙ sym (class_of_lowest out tests i (is_lowest out tests i (rw (← f) v)))))

  pub numbers_end : (s : List ℕ) (i n : ℕ) → i ≤ n → n ≤ i → s ≡ onto (listed (class_number out tests) i) unnumbered → s ≡ numbers_of out tests n
  unfolding numbers_of
  numbers_end s i n w u e = gather_end always (class_number out tests) n i unnumbered s e w u

-- the numbers and their count, behind the last column
pub numbered_end : (tb : Table) (n i k : ℕ) (s : List ℕ) → n ≡ columns tb → i ≤ n → n ≤ i → k ≡ count (lowest (output_at tb) tb.tests) i
    → s ≡ onto (listed (class_number (output_at tb) tb.tests) i) unnumbered → (m : ℕ) → m ≡ k → record { count = m; of = s } ≡ classes_in tb
numbered_end tb n i k s e w u h g m q =
    let same : i ≡ columns tb = omega arith in
    rw (q, h, numbers_end (output_at tb) tb.tests s i (columns tb) (omega arith) (omega arith) g, same) refl
