-- The promise of `report` leaves one answer and one buffer. Assumes nothing.
use mathlib.Core.List.{List}
use mathlib.Core.Path.{◌≡◌, refl, sym, ap, ◌∙◌}
use Prim.Native.Nat.{ℕ}
use Rattle.book.specs.Reading.{read_book}
use Rattle.book_laws.proofs.Accepted.{accepted_gave, accepts_whole}
use Rattle.cover.proofs.Pins.{essential_pins, set_aside_pins}
use Rattle.lent.proofs.Lent.{writes_pins}
use Rattle.report.specs.Answer.{IsTableText, IsText, ReportIs, TextOf}
use Rattle.table.specs.Answers.{answer_value}
use Rattle.table.specs.WellFormed.{WellFormed}
use Rattle.table.specs.declared.Goal.TheVariants.{Detect, Diagnose}
use Rattle.table.specs.declared.Table.{Table}
use Rattle.std.specs.Prelude.{Result, Ok, Err}
use Rattle.table.specs.declared.Refusal.{Refusal}
use Rattle.terms.specs.Terms.{TestOf}
use Rattle.terms_laws.proofs.Choice.{choice_one}

-- a table has one text
table_one : (tb : Table) → WellFormed tb → (t₁ t₂ : List ℕ) → IsTableText tb t₁ → IsTableText tb t₂ → t₁ ≡ t₂
table_one tb w t₁ t₂ a b =
    let aside : a.aside ≡ b.aside = ap answer_value (set_aside_pins tb Diagnose (Ok a.aside) (Ok b.aside) (w, a.is_aside) (w, b.is_aside)) in
    let essential : a.essential ≡ b.essential = ap answer_value (essential_pins tb Diagnose (Ok a.essential) (Ok b.essential) (w, a.is_essential) (w, b.is_essential)) in
    let detect : a.detect ≡ b.detect = choice_one tb Detect (TestOf tb) a.detect b.detect a.is_detect b.is_detect in
    let diagnose : a.diagnose ≡ b.diagnose = choice_one tb Diagnose (TestOf tb) a.diagnose b.diagnose a.is_diagnose b.is_diagnose in
    a.is_text ∙ rw (aside, essential, detect, diagnose) (sym b.is_text)

-- a book has one text
pub text_one : (book t₁ t₂ : List ℕ) → IsText book t₁ → IsText book t₂ → t₁ ≡ t₂
text_one book t₁ t₂ a b = go (read_book book).verdict refl a b
  where
    go : (v : Result (Unit {0}) Refusal) → (read_book book).verdict ≡ v → TextOf v (read_book book).place (read_book book).table t₁ → TextOf v (read_book book).place (read_book book).table t₂ → t₁ ≡ t₂
    go (Ok accepted) e a b = table_one _ (accepted_gave book _ (accepts_whole book e)).formed t₁ t₂ a b
    go (Err why) e a b = a ∙ sym b

pub report_pins : (book entry : List ℕ) (r₁ r₂ : Result ℕ Refusal) (exit₁ exit₂ : List ℕ) → ReportIs book entry r₁ exit₁ → ReportIs book entry r₂ exit₂ → (r₁ ≡ r₂) × (exit₁ ≡ exit₂)
report_pins book entry r₁ r₂ exit₁ exit₂ a b =
    writes_pins 0 a.text entry r₁ r₂ exit₁ exit₂ a.written (rw (text_one book a.text b.text a.is_text b.is_text) b.written)
