-- Laws of the walk along the tests with a place in the observed outputs: those before the place are a column's outputs in the tests so far. Assumes nothing.
use mathlib.Core.Bool.{Bool, true, false}
use mathlib.Core.List.{List, [], ◌∷◌, ◌++◌}
use mathlib.Core.Path.{◌≡◌, refl, sym, ap, ◌∙◌}
use Prim.Native.Nat.{ℕ, ◌+◌, ◌<◌}
use native.Mathlib.Omega.{arith}
use lib.ListN.{length, get_or, take}
use Rattle.std.proofs.lemmas.List.{take_more, take_all}
use Rattle.folds.specs.Fold.{single, count}
use Rattle.folds.proofs.Gather.{gather_yes}
use Rattle.folds.proofs.Joined.{joined_none, joined_no}
use Rattle.sets.specs.Sets.{has}
use Rattle.terms.specs.Columns.{output_of, outputs_under}
use Rattle.terms_laws.proofs.Classes.{signature_get}
use Rattle.suspects.specs.Suspects.{suspect}
use Rattle.suspects.proofs.Answers.{suspect_same, same_suspect}

module _ (out : ℕ → ℕ → ℕ) (s : ℕ) (seen : List ℕ) (c : ℕ) where
  pub walk_start : outputs_under out 0 s c ≡ take 0 seen
  walk_start = joined_none (has s) (single (output_of out c))

  module _ (t next : ℕ) (r : Bool) (walked : outputs_under out t s c ≡ take next seen) (q : r ≡ has s t) where
    pub walk_pass : (next' : ℕ) → r ≡ false → next' ≡ next → outputs_under out (t + 1) s c ≡ take next' seen
    walk_pass next' h e = rw (joined_no (has s) (single (output_of out c)) t (sym q ∙ h), e) walked

    pub walk_take : (next' y : ℕ) → r ≡ true → next < length seen → y ≡ out t c → get_or seen next 0 ≡ y → next' ≡ next + 1 → outputs_under out (t + 1) s c ≡ take next' seen
    unfolding output_of
    walk_take next' y h room e same on =
        gather_yes (has s) (output_of out c) t (sym q ∙ h)
        ∙ ap (λ (l : List ℕ). l ++ (out t c ∷ [])) walked
        ∙ ap (λ (v : ℕ). take next seen ++ (v ∷ [])) (sym (same ∙ e))
        ∙ sym (take_more seen next 0 room)
        ∙ ap (λ (n : ℕ). take n seen) (sym on)

  pub walk_stop : (tests t next : ℕ) (r : Bool) (y : ℕ) → next ≡ count (has s) t → t < tests → r ≡ has s t → r ≡ true → y ≡ out t c → (get_or seen next 0 ≡ y → ⊥)
      → false ≡ suspect out tests s seen c
  walk_stop tests t next r y here w q h e other = go (suspect out tests s seen c) refl
    where
      go : (a : Bool) → suspect out tests s seen c ≡ a → false ≡ a
      go false f = refl
      go true f =
          absurd
          (other
          (ap (λ (i : ℕ). get_or seen i 0) here
          ∙ ap (λ (l : List ℕ). get_or l (count (has s) t) 0) (sym (suspect_same out tests s seen c f))
          ∙ signature_get out tests s c t w (sym q ∙ h)
          ∙ sym e))

  pub walk_end : (tests t next : ℕ) → length seen ≡ count (has s) tests → next ≡ count (has s) t → outputs_under out t s c ≡ take next seen → t ≡ tests → true ≡ suspect out tests s seen c
  walk_end tests t next one_each here walked e =
      sym
      (same_suspect out tests s seen c
      (ap (λ (n : ℕ). outputs_under out n s c) (sym e) ∙ walked ∙ take_all next seen (omega (arith, here, one_each, ap (count (has s)) e))))
