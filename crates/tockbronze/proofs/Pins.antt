-- The promise of each call leaves one result. Assumes nothing.
use mathlib.Core.List.{List}
use mathlib.Core.Logic.{inl, inr}
use mathlib.Core.Path.{◌≡◌, sym, ap, ◌∙◌}
use Prim.Native.Nat.{ℕ}
use native.Mathlib.Omega.{arith}
use lib.ListN.{length}
use Rattle.std.specs.Prelude.{Result, Ok, Err}
use Rattle.table.specs.Answers.{answer_number, answer_value}
use Rattle.table.specs.declared.Refusal.{Refusal}
use Rattle.table.specs.declared.Goal.{Goal}
use Rattle.table.specs.declared.Table.{Table}
use Rattle.book.specs.Reading.{read_book}
use Rattle.cover.proofs.Pins.{set_aside_pins, essential_pins}
use Rattle.classes.proofs.Pins.{undetectable_pins}
use Rattle.choice.proofs.Pins.{choose_pins}
use Rattle.report.proofs.Pins.{text_one}
use Rattle.flat.specs.Flat.{lent_table, bytes_of}
use Rattle.flat.specs.Packed.{packed, goal_of}
use Rattle.flat.specs.Writes.{CallWrites}
use Rattle.tockbronze.specs.Calls.{ForGoal, GivesAside, GivesEssential, GivesChoice, AsideCall, EssentialCall, ChooseCall, CallCounts, ClassesCall, DictionaryCall, SheetCall, SuspectsCall, ReportCall, MarksWritten, UndetectableCall, ReadWritten, ReadCall}

-- where the library's own call leaves one answer, the call for a goal leaves one number
for_goal_pins : (Given : Table → Goal → Result ℕ Refusal → Type 0)
    → ((tb : Table) (goal : Goal) (a b : Result ℕ Refusal) → Given tb goal a → Given tb goal b → a ≡ b)
    → (bytes : List ℕ) (goal r₁ r₂ : ℕ) → ForGoal Given bytes goal r₁ → ForGoal Given bytes goal r₂ → r₁ ≡ r₂
for_goal_pins Given one bytes goal r₁ r₂ (inl (h, p)) (inl (k, q)) =
    p.is ∙ (ap (λ (a : Result ℕ Refusal). packed (answer_number a) (answer_value a)) (one (lent_table bytes) (goal_of goal) p.answer q.answer p.given q.given) ∙ sym q.is)
for_goal_pins Given one bytes goal r₁ r₂ (inl (h, p)) (inr (k, q)) = absurd (omega arith)
for_goal_pins Given one bytes goal r₁ r₂ (inr (h, p)) (inl (k, q)) = absurd (omega arith)
for_goal_pins Given one bytes goal r₁ r₂ (inr (h, p)) (inr (k, q)) = p ∙ sym q

module _ (bytes : List ℕ) (goal : ℕ) where
  pub tockbronze_set_aside_pins : (r₁ r₂ : ℕ) → AsideCall bytes goal r₁ → AsideCall bytes goal r₂ → r₁ ≡ r₂
  tockbronze_set_aside_pins = for_goal_pins GivesAside set_aside_pins bytes goal

  pub tockbronze_essential_pins : (r₁ r₂ : ℕ) → EssentialCall bytes goal r₁ → EssentialCall bytes goal r₂ → r₁ ≡ r₂
  tockbronze_essential_pins = for_goal_pins GivesEssential essential_pins bytes goal

  pub tockbronze_choose_pins : (cap r₁ r₂ : ℕ) → ChooseCall bytes goal cap r₁ → ChooseCall bytes goal cap r₂ → r₁ ≡ r₂
  tockbronze_choose_pins cap = for_goal_pins (GivesChoice cap) (λ tb g. choose_pins tb g cap) bytes goal

-- ---- the calls that write to a lent buffer: one number and one buffer

call_pins : (earlier value : ℕ) (answer d : List ℕ) (r₁ r₂ : ℕ) (e₁ e₂ : List ℕ) → CallWrites earlier value answer d r₁ e₁ → CallWrites earlier value answer d r₂ e₂ → (r₁ ≡ r₂) × (e₁ ≡ e₂)
call_pins earlier value answer d r₁ r₂ e₁ e₂ a b = (a.is ∙ sym b.is, a.buffer ∙ sym b.buffer)

module _ (bytes d : List ℕ) (r₁ r₂ : ℕ) (e₁ e₂ : List ℕ) where
  pub tockbronze_classes_pins : ClassesCall bytes d r₁ e₁ → ClassesCall bytes d r₂ e₂ → (r₁ ≡ r₂) × (e₁ ≡ e₂)
  tockbronze_classes_pins = call_pins _ _ _ d r₁ r₂ e₁ e₂

  pub tockbronze_dictionary_pins : (s : ℕ) → DictionaryCall bytes s d r₁ e₁ → DictionaryCall bytes s d r₂ e₂ → (r₁ ≡ r₂) × (e₁ ≡ e₂)
  tockbronze_dictionary_pins s = call_pins _ _ _ d r₁ r₂ e₁ e₂

  pub tockbronze_witness_sheet_pins : (s : ℕ) → SheetCall bytes s d r₁ e₁ → SheetCall bytes s d r₂ e₂ → (r₁ ≡ r₂) × (e₁ ≡ e₂)
  tockbronze_witness_sheet_pins s = call_pins _ _ _ d r₁ r₂ e₁ e₂

  pub tockbronze_suspects_pins : (s : ℕ) (seen : List ℕ) → SuspectsCall bytes s seen d r₁ e₁ → SuspectsCall bytes s seen d r₂ e₂ → (r₁ ≡ r₂) × (e₁ ≡ e₂)
  tockbronze_suspects_pins s seen = call_pins _ _ _ d r₁ r₂ e₁ e₂

pub tockbronze_report_pins : (book d : List ℕ) (r₁ r₂ : ℕ) (e₁ e₂ : List ℕ) → ReportCall book d r₁ e₁ → ReportCall book d r₂ e₂ → (r₁ ≡ r₂) × (e₁ ≡ e₂)
tockbronze_report_pins book d r₁ r₂ e₁ e₂ a b =
    let w : CallCounts 0 b.text d r₁ e₁ = rw (text_one book a.text b.text a.is_text b.is_text) at a.writes in
    call_pins 0 (length b.text) b.text d r₁ r₂ e₁ e₂ w b.writes

pub tockbronze_undetectable_pins : (bytes d : List ℕ) (r₁ r₂ : ℕ) (e₁ e₂ : List ℕ) → UndetectableCall bytes d r₁ e₁ → UndetectableCall bytes d r₂ e₂ → (r₁ ≡ r₂) × (e₁ ≡ e₂)
tockbronze_undetectable_pins bytes d r₁ r₂ e₁ e₂ a b =
    let w : MarksWritten (lent_table bytes) b.answer d r₁ e₁ = rw (undetectable_pins (lent_table bytes) a.answer b.answer a.given b.given) at a.writes in
    call_pins _ _ _ d r₁ r₂ e₁ e₂ w b.writes

pub tockbronze_read_pins : (book d : List ℕ) (r₁ r₂ : ℕ) (e₁ e₂ : List ℕ) → ReadCall book d r₁ e₁ → ReadCall book d r₂ e₂ → (r₁ ≡ r₂) × (e₁ ≡ e₂)
tockbronze_read_pins book d r₁ r₂ e₁ e₂ = by (read_book book).verdict
  where
    by : (v : Result (Unit {0}) Refusal) → ReadWritten v (read_book book).place (read_book book).table d r₁ e₁ → ReadWritten v (read_book book).place (read_book book).table d r₂ e₂ → (r₁ ≡ r₂) × (e₁ ≡ e₂)
    by (Ok done) a b = call_pins 0 (read_book book).place (bytes_of (read_book book).table) d r₁ r₂ e₁ e₂ a b
    by (Err why) (p, q) (p', q') = (p ∙ sym p', q ∙ sym q')
