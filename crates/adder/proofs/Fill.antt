-- The facts of the loops that fill the table. Assumes nothing.
use mathlib.Core.Bool.{Bool, true, false}
use mathlib.Core.List.{List}
use mathlib.Core.Path.{◌≡◌, refl, ap, ◌∙◌}
use Prim.Native.Nat.{ℕ, ◌+◌, ◌≤◌, ◌<◌}
use native.Mathlib.Nat.{le_antisymm}
use native.Mathlib.Numerals.{add-one}
use native.Mathlib.Omega.{arith}
use borrow.Author.Tests.{ltb-true}
use lib.Dec.{ltb}
use lib.ListN.{get_or, length, replicate, set}
use mir.Val.{bool_byte}
use Rattle.folds.specs.Fold.{both, every, always, listed, onto, pick}
use Rattle.folds.proofs.Bools.{both_left, both_right}
use Rattle.folds.proofs.Every.{every_at}
use Rattle.folds.proofs.Gather.{gather_end, listed_start, listed_store}
use Rattle.table.specs.Table.{place_of}
use Rattle.adder.specs.Adder.{adder_output, adder_table, answered, answers_below, answers_of, correct_output, differing, line_label, no_labels, nothing, row_filled, rows_filled, same, stuck_label}
use Rattle.adder.specs.declared.Answer.{Answer}

module _ (f : ℕ → ℕ → ℕ) (t : ℕ) (cells : List ℕ) where
  pub row_start : cells ≡ row_filled f t 0 cells
  unfolding row_filled
  row_start = refl

  pub row_store : (c at v : ℕ) (s : List ℕ) → s ≡ row_filled f t c cells → at ≡ place_of t c → v ≡ f t c → set s at v ≡ row_filled f t (c + 1) cells
  unfolding row_filled
  row_store c at v s e ea ev = rw (add-one, e, ea, ev)

  pub row_end : (c n : ℕ) (s : List ℕ) → c ≤ n → n ≤ c → s ≡ row_filled f t c cells → s ≡ row_filled f t n cells
  row_end c n s h k e = e ∙ ap (λ (m : ℕ). row_filled f t m cells) (le_antisymm h k)

-- ---- the rows of correct outputs

pub rows_start : (f : ℕ → ℕ → ℕ) → replicate 1464 0 ≡ rows_filled f 0
unfolding rows_filled
rows_start f = refl

-- the output in every column is the correct output in each
pub correct_row : (t output : ℕ) (cells s : List ℕ) → output ≡ adder_output t 0 → cells ≡ rows_filled correct_output t → s ≡ row_filled (same output) t 11 cells → s ≡ rows_filled correct_output (t + 1)
unfolding rows_filled row_filled same correct_output
correct_row t output cells s e ec es = es ∙ rw (add-one, e, ec)

pub rows_end : (f : ℕ → ℕ → ℕ) (t n : ℕ) (s : List ℕ) → t ≤ n → n ≤ t → s ≡ rows_filled f t → s ≡ rows_filled f n
rows_end f t n s h k e = e ∙ ap (rows_filled f) (le_antisymm h k)

-- ---- the answers over them

pub answers_start : (s : List ℕ) → s ≡ rows_filled correct_output 8 → s ≡ answered 0
unfolding answered
answers_start s e = e

pub answers_end : (i n : ℕ) (s : List ℕ) → i ≤ n → n ≤ i → s ≡ answered i → s ≡ answered n
answers_end i n s h k e = e ∙ ap answered (le_antisymm h k)

-- every answer is of one of the 8 tests and of one of the 10 faults
small : ℕ → Bool
small i = both (ltb (get_or differing i nothing).0 8) (ltb (get_or differing i nothing).1 10)

all_small : every small 36 ≡ true
unfolding every small differing answers_below answers_of adder_output nothing
all_small = refl

-- item i of the built-in answers
module _ (items : List Answer) (e : items ≡ differing) (i : ℕ) where
  pub answer_test : (t : ℕ) → t ≡ (get_or items i nothing).0 → i < 36 → t < 8
  unfolding small
  answer_test t et l = rw (et, e) (ltb-true _ _ (both_left _ _ (every_at small 36 i all_small l)))

  pub answer_fault : (f : ℕ) → f ≡ (get_or items i nothing).1 → i < 36 → f < 10
  unfolding small
  answer_fault f ef l = rw (ef, e) (ltb-true _ _ (both_right (ltb (get_or differing i nothing).0 8) _ (every_at small 36 i all_small l)))

  pub answers_store : (t f at : ℕ) (s : List ℕ) → t ≡ (get_or items i nothing).0 → f ≡ (get_or items i nothing).1 → at ≡ place_of t (f + 1) → s ≡ answered i → set s at (get_or items i nothing).2 ≡ answered (i + 1)
  unfolding answered
  answers_store t f at s et ef ea es = rw (add-one, es, ea, et, ef, e)

-- the 36 answers over the correct outputs give every cell of the gates: computed over the whole table
pub gates_right : answered 36 ≡ rows_filled adder_output 8
unfolding answered rows_filled row_filled correct_output differing answers_below answers_of adder_output nothing place_of
gates_right = refl

-- ---- the labels

labels_long : length no_labels ≡ 60
unfolding no_labels
labels_long = refl

module _ (g : ℕ → ℕ) where
  pub labels_start : replicate 60 0 ≡ onto (listed g 0) no_labels
  unfolding no_labels
  labels_start = listed_start g (replicate 60 0)

  pub labels_store : (f v : ℕ) (s : List ℕ) → s ≡ onto (listed g f) no_labels → f < 10 → v ≡ g f → set s f v ≡ onto (listed g (f + 1)) no_labels
  labels_store f v s e l ev = rw e (listed_store g f no_labels v (omega (arith, labels_long)) ev)

pub stuck_byte : (f : ℕ) → bool_byte (ltb f 5) ≡ stuck_label f
unfolding stuck_label
stuck_byte f = as_byte (ltb f 5)
  where
    as_byte : (b : Bool) → bool_byte b ≡ pick b 1 0
    as_byte true = refl
    as_byte false = refl

pub table_right : (cells lines stuck : List ℕ) (f : ℕ) → cells ≡ answered 36 → f ≤ 10 → 10 ≤ f → lines ≡ onto (listed line_label f) no_labels → stuck ≡ onto (listed stuck_label f) no_labels
    → record { tests = 8; faults = 10; cells = cells; lines = lines; stuck = stuck } ≡ adder_table
unfolding adder_table
table_right cells lines stuck f ec h k el es = rw (ec, gates_right, gather_end always line_label 10 f no_labels lines el h k, gather_end always stuck_label 10 f no_labels stuck es h k)
