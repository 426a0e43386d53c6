-- The calls that write to a lent buffer. Assumes nothing.
use mathlib.Core.List.{List}
use mathlib.Core.Path.{◌≡◌, refl, ◌∙◌}
use Prim.Native.Nat.{ℕ, ◌-◌, ◌≤◌, ◌<◌}
use native.Mathlib.Nat.{mul-le-mul}
use native.Mathlib.Omega.{arith}
use lib.ListN.{length, get_or}
use mir.Syntax.{w8}
use mir.Val.{Fits}
use Rattle.std.specs.Prelude.{Result, Ok, Err}
use Rattle.report.specs.Answer.{ReportIs}
use Rattle.report.proofs.Bound.{text_most}
use Rattle.folds.specs.Fold.{count}
use Rattle.folds.proofs.Count.{count_le}
use Rattle.sets.specs.Sets.{has}
use Rattle.table.specs.Answers.{answer_number, answer_value}
use Rattle.table.specs.Table.{output_at, columns}
use Rattle.table.specs.WellFormed.{WellFormed}
use Rattle.table.specs.declared.Table.{Table}
use Rattle.table.specs.declared.Refusal.{Refusal}
use Rattle.terms.specs.Terms.{class_count}
use Rattle.terms_laws.proofs.Classes.{few_classes}
use Rattle.lent.specs.Lent.{set_number, WritesOnto}
use Rattle.lent.proofs.Lent.{wrote_formed}
use Rattle.dictionary.specs.Dictionary.{dictionary_of}
use Rattle.dictionary.proofs.Rows.{rows_size}
use Rattle.witness.specs.Witness.{sheet_of}
use Rattle.witness.proofs.Meaning.{sheet_length}
use Rattle.flat.specs.Packed.{packed, value_limit}
use Rattle.tockbronze.specs.Calls.{CallCounts, ReportCall}

-- the answer of a call that writes, as one number
pub call_counts : (earlier : ℕ) (answer d : List ℕ) (a : Result ℕ Refusal) (r : ℕ) (e : List ℕ) → WritesOnto earlier answer d a e → r ≡ packed (answer_number a) (answer_value a) → CallCounts earlier answer d r e
call_counts earlier answer d a r e w er = record { is = er ∙ rw (w.count, w.number); buffer = w.buffer ∙ rw w.number }

-- ---- how many bytes are written

count_small : (tb : Table) (s : ℕ) (answer d : List ℕ) → (WellFormed tb → length answer < value_limit) → (a : Result ℕ Refusal) (e : List ℕ) → WritesOnto (set_number tb s) answer d a e → answer_value a < value_limit
count_small tb s answer d small (Ok n) e w = rw w.count (small (wrote_formed tb s answer d w.number))
count_small tb s answer d small (Err why) e w = omega arith

pub dictionary_small : (tb : Table) (s : ℕ) (d : List ℕ) (a : Result ℕ Refusal) (e : List ℕ) → WritesOnto (set_number tb s) (dictionary_of tb s) d a e → answer_value a < value_limit
dictionary_small tb s d = count_small tb s (dictionary_of tb s) d λ w.
    let n : count (has s) tb.tests ≤ 24 = omega (arith, w.tests_fit, count_le (has s) tb.tests) in
    omega (arith, rows_size (output_at tb) tb.tests s (class_count tb) (count (has s) tb.tests) (columns tb) refl refl, mul-le-mul (few_classes tb w) n)

pub sheet_small : (tb : Table) (s : ℕ) (d : List ℕ) (a : Result ℕ Refusal) (e : List ℕ) → WritesOnto (set_number tb s) (sheet_of tb s) d a e → answer_value a < value_limit
sheet_small tb s d = count_small tb s (sheet_of tb s) d λ w.
    let k : class_count tb - 1 ≤ 60 = omega (arith, few_classes tb w) in
    omega (arith, sheet_length tb s, mul-le-mul (few_classes tb w) k)

pub report_small : (book d : List ℕ) (a : Result ℕ Refusal) (e : List ℕ) → ((i : ℕ) → Fits w8 (get_or book i 0)) → ReportIs book d a e → answer_value a < value_limit
report_small book d (Ok n) e bytes w = omega (arith, w.written.count, text_most book w.text (λ i. (bytes i).fits) w.is_text)
report_small book d (Err why) e bytes w = omega arith

pub report_call : (book d : List ℕ) (a : Result ℕ Refusal) (r : ℕ) (e : List ℕ) → ReportIs book d a e → r ≡ packed (answer_number a) (answer_value a) → ReportCall book d r e
report_call book d a r e w er = record { text = w.text; is_text = w.is_text; writes = call_counts 0 w.text d a r e w.written er }
