-- What the dictionary holds: k rows of n bytes, and the row of each column's class is the column's own signature. Assumes nothing.
use mathlib.Core.Bool.{true}
use mathlib.Core.List.{List}
use mathlib.Core.Path.{◌≡◌, refl, sym, ap, ◌∙◌}
use Prim.Native.Nat.{ℕ, suc, ◌+◌, ◌*◌, ◌≤◌, ◌<◌}
use native.Mathlib.Nat.{add-mul, one-mul, mul-le-mul, le_refl}
use native.Mathlib.Numerals.{add-one}
use native.Mathlib.Omega.{arith}
use lib.ListN.{length, take, drop}
use Rattle.std.specs.Prelude.{Ok}
use Rattle.folds.specs.Fold.{count}
use Rattle.folds.proofs.Joined.{joined_rows, joined_part}
use Rattle.lent.specs.Lent.{set_number, WritesOnto}
use Rattle.lent.proofs.Lent.{writes_part}
use Rattle.sets.specs.Sets.{has, within, size}
use Rattle.sets.proofs.Bits.{within_yes}
use Rattle.sets.proofs.Weight.{size_counts}
use Rattle.table.specs.Table.{output_at, columns}
use Rattle.table.specs.declared.Table.{Table}
use Rattle.terms.specs.Columns.{lowest, lowest_of, class_number, outputs_under}
use Rattle.terms.specs.Terms.{signature, class_of, class_count}
use Rattle.terms_laws.proofs.Classes.{alike_sym, alike_signature, lowest_le, lowest_alike, lowest_of_lem, class_lowest, class_below}
use Rattle.dictionary.specs.Dictionary.{rows_under, dictionary_of}
use Rattle.dictionary.proofs.Rows.{row_length, rows_size}

-- the length is the number of classes times the set's size
pub dictionary_length : (tb : Table) (s : ℕ) → tb.tests ≤ 24 → within s tb.tests ≡ true → length (dictionary_of tb s) ≡ class_count tb * size s
dictionary_length tb s l w = sym (rows_size (output_at tb) tb.tests s (class_count tb) (size s) (columns tb) refl (size_counts tb.tests s l (within_yes s tb.tests w)))

-- the row of a class starts behind the rows of the lower ones, and is the signature of each of its columns
module _ (out : ℕ → ℕ → ℕ) (tests s n : ℕ) where
  row_start : (c : ℕ) → length (rows_under out tests s (lowest_of out tests c)) ≡ class_number out tests c * count (has s) tests
  row_start c =
      joined_rows (lowest out tests) (outputs_under out tests s) (count (has s) tests) (lowest_of out tests c) (row_length out tests s)
      ∙ ap (λ (m : ℕ). m * count (has s) tests) (sym (class_lowest out tests c))

  pub class_row : (c : ℕ) → c < n → take (count (has s) tests) (drop (class_number out tests c * count (has s) tests) (rows_under out tests s n)) ≡ outputs_under out tests s c
  class_row c w =
      let low : ℕ = lowest_of out tests c in
      ap (λ (m : ℕ). take (count (has s) tests) (drop m (rows_under out tests s n))) (sym (row_start c))
      ∙ ap (λ (m : ℕ). take m (drop (length (rows_under out tests s low)) (rows_under out tests s n))) (sym (row_length out tests s low))
      ∙ joined_part (lowest out tests) (outputs_under out tests s) n low (omega (arith, lowest_le out tests c)) (lowest_of_lem out tests c)
      ∙ alike_signature out tests s low c (alike_sym out tests c low (lowest_alike out tests c))

-- row `class_of tb c` of the dictionary is the signature of column c
pub dictionary_row : (tb : Table) (s c : ℕ) → c < columns tb
    → take (count (has s) tb.tests) (drop (class_of tb c * count (has s) tb.tests) (dictionary_of tb s)) ≡ signature tb s c
dictionary_row tb s c w = class_row (output_at tb) tb.tests s (columns tb) c w

one_more : (r n : ℕ) → suc r * n ≡ r * n + n
one_more r n = ap (λ (x : ℕ). x * n) (sym (add-one r)) ∙ add-mul r 1 n ∙ rw one-mul

-- and so it stands in the buffer that an accepted call leaves
pub written_row : (tb : Table) (s n : ℕ) (d e : List ℕ) → WritesOnto (set_number tb s) (dictionary_of tb s) d (Ok n) e → (c : ℕ) → c < columns tb
    → take (count (has s) tb.tests) (drop (class_of tb c * count (has s) tb.tests) e) ≡ signature tb s c
written_row tb s n d e a c w =
    let size : ℕ = count (has s) tb.tests in
    let fits : class_of tb c * size + size ≤ length (dictionary_of tb s) =
    rw (← rows_size (output_at tb) tb.tests s (class_count tb) size (columns tb) refl refl, ← one_more (class_of tb c) size)
    (mul-le-mul (class_below (output_at tb) tb.tests (columns tb) c w) (le_refl size)) in
    writes_part (set_number tb s) (dictionary_of tb s) d n e a (class_of tb c * size) size fits ∙ dictionary_row tb s c w
