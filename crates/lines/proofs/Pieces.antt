-- What the writers of lines have done, from what each piece's writer did. Assumes nothing.
use mathlib.Core.List.{List}
use mathlib.Core.Path.{◌≡◌}
use Prim.Native.Nat.{ℕ, ◌+◌, ◌<◌}
use Rattle.folds.specs.Fold.{count, first}
use Rattle.items.specs.Items.{in_class, members_text, signature_text, spaced}
use Rattle.lines.specs.Text.{Numbered, class_head, class_line, class_tail, class_word, colon_word, newline}
use Rattle.table.specs.Table.{columns, output_at}
use Rattle.table.specs.declared.Table.{Table}
use Rattle.text.proofs.Adds.{adds_then}
use Rattle.text.specs.Text.{Adds}

pub class_done : (tb : Table) (of : List ℕ) (s k low : ℕ) (b b₁ b₂ b₃ b₄ b₅ b₆ b₇ : List ℕ) → low ≡ first (in_class of k) (tb.faults + 1)
    → Adds class_word b b₁ → Adds (spaced k) b₁ b₂ → Adds colon_word b₂ b₃ → Adds (signature_text (output_at tb) tb.tests s low) b₃ b₄
    → Adds colon_word b₄ b₅ → Adds (members_text tb.lines tb.stuck of (tb.faults + 1) k) b₅ b₆ → Adds newline b₆ b₇ → Adds (class_line tb of s k) b b₇
unfolding class_line class_head class_tail
class_done tb of s k low b b₁ b₂ b₃ b₄ b₅ b₆ b₇ l w₁ w₂ w₃ w₄ w₅ w₆ w₇ =
    let w : Adds (signature_text (output_at tb) tb.tests s (first (in_class of k) (tb.faults + 1))) b₃ b₄ = rw (← l) w₄ in
    adds_then _ _ b b₃ b₇ (adds_then _ _ b b₁ b₃ w₁ (adds_then _ _ b₁ b₂ b₃ w₂ w₃))
    (adds_then _ _ b₃ b₄ b₇ w (adds_then _ _ b₄ b₅ b₇ w₅ (adds_then _ _ b₅ b₆ b₇ w₆ w₇)))

pub numbered_at : (tb : Table) (of : List ℕ) (count k : ℕ) → Numbered tb of count → k < count → first (in_class of k) (columns tb) < columns tb
numbered_at tb of count k n l = n.has k l
