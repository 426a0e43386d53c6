-- The end of the loop that writes a row. Assumes nothing.
use mathlib.Core.Bool.{Bool}
use mathlib.Core.List.{List}
use mathlib.Core.Path.{◌≡◌, sym, ap, ◌∙◌}
use Prim.Native.Nat.{ℕ}
use lib.ListN.{length}
use Rattle.folds.specs.Fold.{count, gather, onto}
use Rattle.folds.proofs.Gather.{gather_length}
use Rattle.folds.proofs.Onto.{onto_full}

-- a buffer as long as one test's numbers is full, whichever test it was counted by
pub row_done : (p q : ℕ → Bool) (f : ℕ → ℕ) (n i j : ℕ) (d s : List ℕ) → s ≡ onto (gather q f i) d → j ≡ count q i → j ≡ count p i → i ≡ n → length d ≡ count p n → s ≡ gather q f n
row_done p q f n i j d s e a b z l =
    let m : gather q f i ≡ gather q f n = ap (gather q f) z in
    e ∙ onto_full (gather q f i) d (gather_length q f i ∙ sym a ∙ b ∙ ap (count p) z ∙ sym l) ∙ m
