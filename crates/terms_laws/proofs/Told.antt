-- What a choice is for: the outputs of its tests tell the classes apart, and a detected card from the healthy one. Assumes nothing.
use mathlib.Core.Bool.{Bool, true, false}
use mathlib.Core.Logic.{⊎_elim}
use mathlib.Core.Path.{◌≡◌, refl, sym}
use Prim.Native.Nat.{ℕ, ◌+◌, ◌≤◌, ◌<◌}
use native.Mathlib.Omega.{arith}
use Rattle.folds.proofs.Below.{lt_or_ge}
use Rattle.sets.proofs.Bits.{has_yes}
use Rattle.table.specs.Table.{columns, output_at}
use Rattle.table.specs.declared.Goal.TheVariants.{Detect, Diagnose}
use Rattle.table.specs.declared.Table.{Table}
use Rattle.terms.specs.Choice.{Choice}
use Rattle.terms.specs.Columns.{alike}
use Rattle.terms.specs.Terms.{SeparatedBy, Undetectable, class_of, signature}
use Rattle.terms_laws.proofs.Classes.{alike_class, alike_signature, class_alike, class_same, signature_at, unlike_at}

-- a set that separates two columns gives them different signatures
separated : (tb : Table) (s a b : ℕ) → SeparatedBy tb s a b → signature tb s a ≡ signature tb s b → ⊥
separated tb s a b (t, l, h, sep) e = sep (signature_at (output_at tb) tb.tests s a b t e l (has_yes s t h))

-- columns of one class have one signature, under any set
pub class_signature : (tb : Table) (s a b : ℕ) → class_of tb a ≡ class_of tb b → signature tb s a ≡ signature tb s b
class_signature tb s a b e = alike_signature (output_at tb) tb.tests s a b (class_alike (output_at tb) tb.tests a b e)

module _ (tb : Table) (s : ℕ) where
  lower_first : Choice tb Diagnose s → (a b : ℕ) → a < b → b < columns tb → signature tb s a ≡ signature tb s b → alike (output_at tb) tb.tests a b ≡ true
  lower_first c a b l m e = go (alike (output_at tb) tb.tests a b) refl
    where
      go : (r : Bool) → alike (output_at tb) tb.tests a b ≡ r → r ≡ true
      go true q = refl
      go false q = absurd (separated tb s a b (c.reaches a b (l, m) (unlike_at (output_at tb) tb.tests a b q)) e)

  -- under the diagnose choice the signatures of two classes differ
  pub diagnose_tells : Choice tb Diagnose s → (a b : ℕ) → a < columns tb → b < columns tb → signature tb s a ≡ signature tb s b → class_of tb a ≡ class_of tb b
  diagnose_tells c a b l m e = ⊎_elim
      (λ (w : a < b). class_same (output_at tb) tb.tests a b (lower_first c a b w m e))
      (λ (w : b ≤ a). ⊎_elim
      (λ (v : b < a). sym (class_same (output_at tb) tb.tests b a (lower_first c b a v l (sym e))))
      (λ (v : a ≤ b). let q : a ≡ b = omega arith in rw q)
      (lt_or_ge b a))
      (lt_or_ge a b)

  -- under the detect choice a card with a fault answers as the healthy card does exactly when the fault is undetectable
  pub detect_tells : Choice tb Detect s → (f : ℕ) → f < tb.faults → signature tb s 0 ≡ signature tb s (f + 1) → Undetectable tb f
  detect_tells c f l e t m sep = separated tb s 0 (f + 1) (c.reaches 0 (f + 1) (refl, omega arith, omega arith) (t, m, sep)) e

  pub undetectable_answers : (f : ℕ) → Undetectable tb f → signature tb s 0 ≡ signature tb s (f + 1)
  undetectable_answers f u = class_signature tb s 0 (f + 1) (alike_class tb 0 (f + 1) u)
