-- What the sheet holds: the witness of two classes, at their own place; the first test of the set in which their rows differ.
-- Assumes nothing.
use mathlib.Core.Bool.{true}
use mathlib.Core.List.{List}
use mathlib.Core.Logic.{⊎_elim}
use mathlib.Core.Path.{◌≡◌, refl, sym, ap, ◌∙◌}
use Prim.Native.Nat.{ℕ, ◌+◌, ◌-◌, ◌*◌, ◌/◌, ◌≤◌, ◌<◌}
use native.Mathlib.Nat.{le_antisymm, mul-sub, mul-add, mul-one, mul_left_comm}
use native.Mathlib.Omega.{arith}
use borrow.Author.Tests.{lt-ltb, eq-eqb, ne_eqb, not-true}
use lib.Dec.{ltb}
use lib.ListN.{length, get_or, drop}
use lib.Seq.{get_or-drop, get_or-take}
use Rattle.std.specs.Prelude.{Ok}
use Rattle.folds.specs.Fold.{pick, count}
use Rattle.folds.proofs.Below.{lt_or_ge, eq_or_ne}
use Rattle.folds.proofs.Bools.{both_true, both_left, both_right, clash}
use Rattle.folds.proofs.Count.{count_yes, count_mono, count_less}
use Rattle.folds.proofs.First.{first_below, first_has, first_le, first_same}
use Rattle.folds.proofs.Joined.{joined_part, joined_mono, rows_at}
use Rattle.folds.proofs.Gather.{gather_length, gather_get}
use Rattle.sets.specs.Sets.{has}
use Rattle.table.specs.Table.{output_at, columns}
use Rattle.table.specs.declared.Table.{Table}
use Rattle.terms.specs.Columns.{agrees, alike, lowest, lowest_of, class_number, outputs_under}
use Rattle.terms.specs.Terms.{class_of, class_count}
use Rattle.terms_laws.proofs.Classes.{alike_at, alike_sym, lowest_le, lowest_alike, lowest_of_lem, class_lowest, signature_of, signature_at}
use Rattle.lent.specs.Lent.{set_number, WritesOnto}
use Rattle.lent.proofs.Lent.{writes_byte}
use Rattle.witness.specs.Witness.{separates, lowest_test, witness_of, above, witnesses, sheet_under, sheet_of}
use Rattle.witness.proofs.Rows.{witness_found, witness_none, above_count}
use Rattle.witness.proofs.Size.{rows_to, rows_sum, sheet_size}

-- the bytes before the row of class i of k, from twice their number
row_place : (i k sum : ℕ) → 2 * sum + (i * i + i) ≡ 2 * (i * k) → sum ≡ i * (2 * k - i - 1) / 2
row_place i k sum h =
    let a : 2 * k - i - 1 ≡ 2 * k - (i + 1) = omega arith in
    let b : i * (2 * k - (i + 1)) ≡ i * (2 * k) - (i * i + i) = mul-sub i (2 * k) (i + 1) ∙ rw (mul-add i i 1, mul-one) in
    let c : i * (2 * k) ≡ 2 * (i * k) = mul_left_comm i 2 k in
    rw (a, b, c) (omega arith)

module _ (out : ℕ → ℕ → ℕ) (tests s : ℕ) where
  -- ---- the witness of two columns

  separates_yes : (a b t : ℕ) → has s t ≡ true → (out t a ≡ out t b → ⊥) → separates out s a b t ≡ true
  unfolding separates agrees
  separates_yes a b t h n = both_true _ _ h (rw (ne_eqb (out t a) (out t b) n))

  separates_has : (a b t : ℕ) → separates out s a b t ≡ true → has s t ≡ true
  unfolding separates
  separates_has a b t e = both_left _ _ e

  separates_differ : (a b t : ℕ) → separates out s a b t ≡ true → out t a ≡ out t b → ⊥
  unfolding separates agrees
  separates_differ a b t e q = clash _ (eq-eqb (out t a) (out t b) q) (not-true _ (both_right (has s t) _ e))

  -- columns that are alike have the same witnesses
  pub witness_same : (a b c d : ℕ) → alike out tests a c ≡ true → alike out tests b d ≡ true → witness_of out tests s a b ≡ witness_of out tests s c d
  unfolding witness_of separates agrees
  witness_same a b c d h k =
      let e : lowest_test out tests s a b ≡ lowest_test out tests s c d = first_same _ _ tests (λ t w. rw (alike_at out tests a c t h w, alike_at out tests b d t k w)) in
      ap (λ (m : ℕ). pick (ltb m tests) m 255) e

  low_witness : (a b : ℕ) → lowest_test out tests s a b < tests → witness_of out tests s a b ≡ lowest_test out tests s a b
  low_witness a b w = sym (witness_found out tests s a b _ refl w)

  no_witness : (a b : ℕ) → tests ≤ lowest_test out tests s a b → witness_of out tests s a b ≡ 255
  no_witness a b w = sym (witness_none out tests s a b (le_antisymm w (first_le (separates out s a b) tests)))

  -- test t is the first test of the set in which the signatures of the columns a and b differ
  pub record FirstIn (t a b : ℕ) : Type 0 where
    pub test : t < tests
    pub held : has s t ≡ true
    pub differ : out t a ≡ out t b → ⊥
    pub agree : (u : ℕ) → u < t → has s u ≡ true → out u a ≡ out u b

  -- before the lowest test that separates two columns they agree
  agree_before : (a b t : ℕ) → t < lowest_test out tests s a b → has s t ≡ true → out t a ≡ out t b
  agree_before a b t w h =
      ⊎_elim (λ e. e) (λ n. clash _ (separates_yes a b t h n) (first_below (separates out s a b) tests t w)) (eq_or_ne (out t a) (out t b))

  -- 255 stands exactly where the signatures are equal
  pub equal_none : (a b : ℕ) → outputs_under out tests s a ≡ outputs_under out tests s b → witness_of out tests s a b ≡ 255
  equal_none a b e = ⊎_elim
      (λ (w : lowest_test out tests s a b < tests).
      let h = first_has (separates out s a b) tests w in
      absurd (separates_differ a b _ h (signature_at out tests s a b _ e w (separates_has a b _ h))))
      (no_witness a b)
      (lt_or_ge (lowest_test out tests s a b) tests)

  module _ (few : tests ≤ 24) where
    pub none_equal : (a b : ℕ) → witness_of out tests s a b ≡ 255 → outputs_under out tests s a ≡ outputs_under out tests s b
    none_equal a b e = ⊎_elim
        (λ w. absurd (omega (arith, low_witness a b w)))
        (λ w. signature_of out tests s a b (λ t l h. agree_before a b t (omega arith) h))
        (lt_or_ge (lowest_test out tests s a b) tests)

    -- any other witness is the first test of the set in which the signatures differ
    pub witness_first : (a b : ℕ) → (witness_of out tests s a b ≡ 255 → ⊥) → FirstIn (witness_of out tests s a b) a b
    witness_first a b n = ⊎_elim
        (λ w. let h = first_has (separates out s a b) tests w in rw (low_witness a b w) (record {
          test = w;
          held = separates_has a b _ h;
          differ = separates_differ a b _ h;
          agree = λ u v q. agree_before a b u v q;
        }))
        (λ w. absurd (n (no_witness a b w)))
        (lt_or_ge (lowest_test out tests s a b) tests)

  -- ---- where it stands

  module _ (n : ℕ) where
    -- a place of a row, in the sheet
    in_row : (a m : ℕ) → a < n → lowest out tests a ≡ true → m < length (witnesses out tests s n a)
        → get_or (sheet_under out tests s n) (rows_to out tests s n a + m) 0 ≡ get_or (witnesses out tests s n a) m 0
    in_row a m w h l =
        sym (get_or-drop (rows_to out tests s n a) (sheet_under out tests s n) m 0)
        ∙ sym (get_or-take (length (witnesses out tests s n a)) (drop (rows_to out tests s n a) (sheet_under out tests s n)) m 0 l)
        ∙ ap (λ (x : List ℕ). get_or x m 0) (joined_part (lowest out tests) (witnesses out tests s n) n a w h)

    is_above : (a b : ℕ) → a < b → lowest out tests b ≡ true → above out tests a b ≡ true
    unfolding above
    is_above a b w h = both_true _ _ (lt-ltb a b w) h

    -- of the lowest columns of two classes
    lowest_place : (a b : ℕ) → a < b → b < n → lowest out tests a ≡ true → lowest out tests b ≡ true
        → get_or (sheet_under out tests s n) (rows_to out tests s n a + count (above out tests a) b) 0 ≡ witness_of out tests s a b
    lowest_place a b l w h k =
        in_row a (count (above out tests a) b) (omega arith) h
        (omega (arith, gather_length (above out tests a) (witness_of out tests s a) n, count_less (above out tests a) b n w (is_above a b l k)))
        ∙ gather_get (above out tests a) (witness_of out tests s a) n b w (is_above a b l k)

    below_sheet : (a b : ℕ) → a < b → b < n → lowest out tests a ≡ true → lowest out tests b ≡ true
        → rows_to out tests s n a + count (above out tests a) b < length (sheet_under out tests s n)
    below_sheet a b l w h k =
        omega (
          arith,
          gather_length (above out tests a) (witness_of out tests s a) n,
          count_less (above out tests a) b n w (is_above a b l k),
          rows_at (lowest out tests) (witnesses out tests s n) a _ _ _ true refl (sym h) refl refl refl,
          joined_mono (lowest out tests) (witnesses out tests s n) (a + 1) n (omega arith),
        )

    lower : (c d : ℕ) → class_number out tests c < class_number out tests d → lowest_of out tests c < lowest_of out tests d
    lower c d w = ⊎_elim
        (λ l. l)
        (λ l. absurd (omega (arith, class_lowest out tests c, class_lowest out tests d, count_mono (lowest out tests) (lowest_of out tests d) (lowest_of out tests c) l)))
        (lt_or_ge (lowest_of out tests c) (lowest_of out tests d))

    module _ (c d i j k : ℕ) (w : d < n) (ei : i ≡ class_number out tests c) (ej : j ≡ class_number out tests d) (ek : k ≡ count (lowest out tests) n) (l : i < j) where
      lower_lowest : lowest_of out tests c < lowest_of out tests d
      lower_lowest = lower c d (rw (← ei, ← ej) l)

      lowest_below : lowest_of out tests d < n
      lowest_below = omega (arith, lowest_le out tests d)

      place_is : rows_to out tests s n (lowest_of out tests c) + count (above out tests (lowest_of out tests c)) (lowest_of out tests d) ≡ i * (2 * k - i - 1) / 2 + (j - i - 1)
      place_is =
          let a : ℕ = lowest_of out tests c in
          let fi : i ≡ count (lowest out tests) a = ei ∙ class_lowest out tests c in
          let fj : j ≡ count (lowest out tests) (lowest_of out tests d) = ej ∙ class_lowest out tests d in
          let p : rows_to out tests s n a ≡ i * (2 * k - i - 1) / 2 = row_place i k (rows_to out tests s n a) (rw (fi, ek) (rows_sum out tests s n a (omega (arith, lower_lowest, lowest_below)))) in
          omega (arith, p, above_count out tests a (lowest_of out tests d) lower_lowest, count_yes (lowest out tests) a (lowest_of_lem out tests c))

      -- the witness of the classes i < j of k stands at i (2 k - i - 1) / 2 + j - i - 1
      pub witness_place_lem : get_or (sheet_under out tests s n) (i * (2 * k - i - 1) / 2 + (j - i - 1)) 0 ≡ witness_of out tests s c d
      witness_place_lem =
          rw (← place_is) (lowest_place (lowest_of out tests c) (lowest_of out tests d) lower_lowest lowest_below (lowest_of_lem out tests c) (lowest_of_lem out tests d))
          ∙ witness_same _ _ c d (alike_sym out tests c _ (lowest_alike out tests c)) (alike_sym out tests d _ (lowest_alike out tests d))

      pub place_below : i * (2 * k - i - 1) / 2 + (j - i - 1) < length (sheet_under out tests s n)
      place_below = rw (← place_is) (below_sheet (lowest_of out tests c) (lowest_of out tests d) lower_lowest lowest_below (lowest_of_lem out tests c) (lowest_of_lem out tests d))

-- ---- the sheet of a table

pub sheet_length : (tb : Table) (s : ℕ) → length (sheet_of tb s) ≡ class_count tb * (class_count tb - 1) / 2
sheet_length tb s = sym (sheet_size (output_at tb) tb.tests s (columns tb) (class_count tb) refl)

-- where the witness of the classes of the columns c and d stands
abbrev pub witness_place : Table → ℕ → ℕ → ℕ
witness_place tb c d = class_of tb c * (2 * class_count tb - class_of tb c - 1) / 2 + (class_of tb d - class_of tb c - 1)

module _ (tb : Table) (s c d : ℕ) (w : d < columns tb) (l : class_of tb c < class_of tb d) where
  pub sheet_place : get_or (sheet_of tb s) (witness_place tb c d) 0 ≡ witness_of (output_at tb) tb.tests s c d
  sheet_place = witness_place_lem (output_at tb) tb.tests s (columns tb) c d _ _ _ w refl refl refl l

  -- and so it stands in the buffer that an accepted call leaves
  pub written_witness : (n : ℕ) (b e : List ℕ) → WritesOnto (set_number tb s) (sheet_of tb s) b (Ok n) e → get_or e (witness_place tb c d) 0 ≡ witness_of (output_at tb) tb.tests s c d
  written_witness n b e a =
      writes_byte (set_number tb s) (sheet_of tb s) b n e a (witness_place tb c d) (place_below (output_at tb) tb.tests s (columns tb) c d _ _ _ w refl refl refl l)
      ∙ sheet_place
