-- What the writers of a whole text have done. Assumes nothing.
use mathlib.Core.List.{List, []}
use mathlib.Core.Logic.{inl, inr}
use mathlib.Core.Path.{◌≡◌, refl, ◌∙◌}
use Prim.Native.Nat.{ℕ, ◌≤◌}
use native.Mathlib.Omega.{arith}
use lib.ListN.{get_or, length}
use mir.Syntax.{w8}
use mir.Val.{Fits}
use Rattle.book.specs.Reading.{read_book}
use Rattle.book_laws.proofs.Accepted.{accepted_gave, accepts_whole}
use Rattle.sets.proofs.Weight.{size_most}
use Rattle.choice.specs.Answer.{ChoiceIs}
use Rattle.cover.specs.Answer.{AsideTest, Exactly, Gives}
use Rattle.lent.specs.Lent.{WritesOnto}
use Rattle.report.proofs.Bound.{text_most}
use Rattle.report.specs.Answer.{IsTableText, IsText, Paged, ReportIs}
use Rattle.lines.specs.Text.{refused_text, table_text}
use Rattle.sets.proofs.Bits.{below_of_bits}
use Rattle.table.specs.Answers.{number_of}
use Rattle.table.specs.WellFormed.{WellFormed}
use Rattle.std.specs.Prelude.{Result, Ok, Err}
use Rattle.std.specs.Result.{result_unwrap_or}
use Rattle.table.specs.declared.Goal.{Goal}
use Rattle.table.specs.declared.Goal.TheVariants.{Detect, Diagnose}
use Rattle.table.specs.declared.Reading.{Reading}
use Rattle.table.specs.declared.Refusal.{Refusal}
use Rattle.table.specs.declared.Table.{Table}
use Rattle.terms.specs.Choice.{Choice}
use Rattle.terms.specs.Terms.{Essential}
use Rattle.terms_laws.proofs.Choice.{choice_exists}
use Rattle.text.proofs.Adds.{adds_whole}
use Rattle.text.specs.Text.{Adds, page_size}

-- ---- a well-formed table

module _ (tb : Table) (w : WellFormed tb) where
  given_set : (P : ℕ → Type 0) (r : Result ℕ Refusal) → Gives tb P r → Exactly P (result_unwrap_or r 0)
  given_set P (Ok s) g = g.1
  given_set P (Err why) g = absurd (g.0 w)

  -- no choice has more than 24 tests
  chosen_choice : (goal : Goal) (r : Result ℕ Refusal) → ChoiceIs tb goal 24 r → Choice tb goal (result_unwrap_or r 0)
  chosen_choice goal (Ok s) c = c.2
  chosen_choice goal (Err why) (inl (e, ill)) = absurd (ill w)
  chosen_choice goal (Err why) (inr (inl (e, w', m))) = absurd (omega arith)
  chosen_choice goal (Err why) (inr (inr (e, w', m, none))) =
      let x = choice_exists tb goal in
      absurd (omega (
        arith,
        none x.0 x.1.within x.1.reaches,
        size_most x.0 (below_of_bits 24 x.0 (λ t h. omega (arith, x.1.within t h, w.tests_fit))),
      ))

  pub table_paged : (r₁ r₂ r₃ r₄ : Result ℕ Refusal) (aside essential detect diagnose : ℕ) (b b' : List ℕ)
      → Gives tb (AsideTest tb Diagnose) r₁ → aside ≡ result_unwrap_or r₁ 0 → Gives tb (Essential tb Diagnose) r₂ → essential ≡ result_unwrap_or r₂ 0
      → ChoiceIs tb Detect 24 r₃ → detect ≡ result_unwrap_or r₃ 0 → ChoiceIs tb Diagnose 24 r₄ → diagnose ≡ result_unwrap_or r₄ 0
      → Adds (table_text tb aside essential detect diagnose) b b' → Paged (IsTableText tb) b b'
  table_paged r₁ r₂ r₃ r₄ aside essential detect diagnose b b' g₁ e₁ g₂ e₂ g₃ e₃ g₄ e₄ v = record {
    text = table_text tb aside essential detect diagnose;
    is_text = record {
      aside = aside;
      essential = essential;
      detect = detect;
      diagnose = diagnose;
      is_aside = rw e₁ (given_set (AsideTest tb Diagnose) r₁ g₁);
      is_essential = rw e₂ (given_set (Essential tb Diagnose) r₂ g₂);
      is_detect = rw e₃ (chosen_choice Detect r₃ g₃);
      is_diagnose = rw e₄ (chosen_choice Diagnose r₄ g₄);
      is_text = refl;
    };
    adds = v;
  }

-- ---- a book

module _ (book : List ℕ) (reading : Reading) (e : reading ≡ read_book book) (b b' : List ℕ) where
  pub page_formed : reading.verdict ≡ Ok tt → WellFormed reading.table
  page_formed h = rw e (accepted_gave book _ (accepts_whole book (rw e at h))).formed

  pub page_accepted : reading.verdict ≡ Ok tt → Paged (IsTableText reading.table) b b' → Paged (IsText book) b b'
  page_accepted h p = record { text = p.text; is_text = rw (← e, h) p.is_text; adds = p.adds }

  pub page_refused : (why : Refusal) (n m : ℕ) → reading.verdict ≡ Err why → n ≡ number_of why → m ≡ n
      → Adds (refused_text m reading.place) b b' → Paged (IsText book) b b'
  page_refused why n m h f g v = record { text = refused_text m reading.place; is_text = rw (← e, h, g, f) refl; adds = v }

-- ---- the page, which was empty, holds the whole text; d is what the lent buffer held

module _ (book start page all : List ℕ) (b : (i : ℕ) → Fits w8 (get_or book i 0)) (z : start ≡ []) (p : Paged (IsText book) start page) (e : all ≡ page) (f : length all ≤ page_size) where
  page_is : all ≡ p.text
  page_is = e ∙ adds_whole p.text page (rw (← e) f) (text_most book p.text (λ i. (b i).fits) p.is_text) (rw z at p.adds)

  pub report_laid : (d : List ℕ) (r : Result ℕ Refusal) (d' : List ℕ) → WritesOnto 0 all d r d' → ReportIs book d r d'
  report_laid d r d' w = record { text = p.text; is_text = p.is_text; written = rw (← page_is) w }
