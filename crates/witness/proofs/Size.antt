-- Where each row of the sheet starts, and how long the sheet is. Assumes nothing.
use mathlib.Core.Bool.{Bool, true, false}
use mathlib.Core.Path.{◌≡◌, refl, sym, ◌∙◌}
use Prim.Native.Nat.{ℕ, zero, suc, ◌+◌, ◌-◌, ◌*◌, ◌/◌, ◌≤◌}
use native.Mathlib.Nat.{mul-le-mul, lt_of_le_of_lt, add-mul, mul-add, one-mul, mul-one, zero-mul, mul-sub}
use native.Mathlib.Numerals.{add-one}
use native.Mathlib.Omega.{arith}
use lib.Dec.{lit<}
use lib.ListN.{length}
use mir.Syntax.{w64}
use mir.Val.{Fits}
use Rattle.folds.specs.Fold.{count, joined}
use Rattle.folds.proofs.Count.{count_none, count_yes, count_no, count_less, count_le}
use Rattle.folds.proofs.Joined.{joined_none, rows_at, rows_stay}
use Rattle.table.specs.Table.{output_at, columns}
use Rattle.lent.specs.declared.given.Given.{Given}
use Rattle.terms.specs.Columns.{lowest}
use Rattle.terms.specs.Terms.{class_count}
use Rattle.terms_laws.proofs.Classes.{lowest_zero}
use Rattle.witness.specs.Witness.{witnesses, sheet_under, sheet_of}
use Rattle.witness.proofs.Rows.{row_length}

-- one class more
step : (sum r row k : ℕ) → 2 * sum + (r * r + r) ≡ 2 * (r * k) → row + (r + 1) ≡ k → 2 * (sum + row) + ((r + 1) * (r + 1) + (r + 1)) ≡ 2 * ((r + 1) * k)
step sum r row k h e =
    let a : (r + 1) * (r + 1) ≡ r * r + r + (r + 1) = add-mul r 1 (r + 1) ∙ rw (mul-add r r 1, mul-one, one-mul) in
    let b : (r + 1) * k ≡ r * k + k = add-mul r 1 k ∙ rw one-mul in
    omega arith

module _ (out : ℕ → ℕ → ℕ) (tests s n : ℕ) where
  -- the rows of the classes whose lowest column is below i
  abbrev pub rows_to : ℕ → ℕ
  rows_to i = length (joined (lowest out tests) (witnesses out tests s n) i)

  -- with r of k classes below column i, twice the bytes of their rows: r (2 k - r - 1)
  pub rows_sum : (i : ℕ) → i ≤ n
      → 2 * rows_to i + (count (lowest out tests) i * count (lowest out tests) i + count (lowest out tests) i) ≡ 2 * (count (lowest out tests) i * count (lowest out tests) n)
  rows_sum zero w = simp (joined_none, count_none, zero-mul)
  rows_sum (suc i) w = go (lowest out tests i) refl (rows_sum i (omega arith))
    where
      r : ℕ
      r = count (lowest out tests) i

      k : ℕ
      k = count (lowest out tests) n

      go : (b : Bool) → lowest out tests i ≡ b → 2 * rows_to i + (r * r + r) ≡ 2 * (r * k)
          → 2 * rows_to (suc i) + (count (lowest out tests) (suc i) * count (lowest out tests) (suc i) + count (lowest out tests) (suc i)) ≡ 2 * (count (lowest out tests) (suc i) * k)
      go true e h =
          let c : count (lowest out tests) (suc i) ≡ r + 1 = rw (← add-one i) (count_yes (lowest out tests) i e) in
          let next : rows_to (suc i) ≡ rows_to i + length (witnesses out tests s n i) = rw (← add-one i) (sym (rows_at (lowest out tests) (witnesses out tests s n) i _ _ _ true refl (sym e) refl refl refl)) in
          rw (next, c) (step (rows_to i) r (length (witnesses out tests s n i)) k h (row_length out tests s n i w e))
      go false e h =
          let c : count (lowest out tests) (suc i) ≡ r = rw (← add-one i) (count_no (lowest out tests) i e) in
          let next : rows_to (suc i) ≡ rows_to i = rw (← add-one i) (sym (rows_stay (lowest out tests) (witnesses out tests s n) i _ _ false refl (sym e) refl refl)) in
          rw (next, c) h

  -- the sheet has k (k - 1) / 2 bytes
  pub sheet_size : (k : ℕ) → k ≡ count (lowest out tests) n → k * (k - 1) / 2 ≡ length (sheet_under out tests s n)
  sheet_size k e =
      let sum = rows_sum n (omega arith) in
      let f : k * (k - 1) ≡ k * k - k = mul-sub k k 1 ∙ rw mul-one in
      let g : count (lowest out tests) n * count (lowest out tests) n ≡ k * k = rw e in
      omega arith

-- the sheet of k classes, and how many bytes it has
module _ (g : Given) (k : ℕ) (e : k ≡ class_count g.table.table) where
  pub sheet_bytes : k * (k - 1) / 2 ≡ length (sheet_of g.table.table g.set)
  sheet_bytes = sheet_size (output_at g.table.table) g.table.table.tests g.set (columns g.table.table) k e

  pub sheet_fits : (room : ℕ) → k * (k - 1) / 2 ≤ room → length (sheet_of g.table.table g.set) ≤ room
  sheet_fits room h = rw (← sheet_bytes) h

  -- there is a class at least, that of column 0
  pub some_class : 1 ≤ k
  some_class = omega (arith, count_less (lowest (output_at g.table.table) g.table.table.tests) 0 (columns g.table.table) (omega arith) (lowest_zero (output_at g.table.table) g.table.table.tests))

  -- how many bytes it has fits
  pub pairs_fit : Fits w64 (k * (k - 1))
  pairs_fit =
      let a : k ≤ 61 = omega (arith, g.table.faults_fit, count_le (lowest (output_at g.table.table) g.table.table.tests) (columns g.table.table)) in
      let b : k - 1 ≤ 61 = omega arith in
      record { fits = lt_of_le_of_lt (mul-le-mul a b) (lit< tt) }
