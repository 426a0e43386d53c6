-- Masks that are put in another order: the same sets hit all of them. Assumes nothing.
use mathlib.Core.List.{List}
use Prim.Native.Nat.{ℕ}
use Rattle.std.specs.List.Sorted.{IsPermutation}
use Rattle.std.proofs.lemmas.Grind.{get_or_default_zero}
use Rattle.std.proofs.lemmas.List.Sorted.{IsPermutation-sym, length_permutation, All-permutation}
use Rattle.sets.specs.Sets.{Shares}
use Rattle.cover.specs.Masks.{Hits}
use Rattle.choice.specs.Order.{Reordered}

hits_in : (xs ys : List ℕ) (s : ℕ) → IsPermutation xs ys → Hits xs s → Hits ys s
hits_in xs ys s p h k l = All-permutation (λ m. Shares m s) xs ys p (λ i d w. rw (get_or_default_zero xs i d w) (h i w)) k 0 l

pub reordered : (xs ys : List ℕ) → IsPermutation xs ys → Reordered xs ys
reordered xs ys p = record {
  long = length_permutation xs ys p;
  hits = λ s h. hits_in xs ys s p h;
  hit = λ s h. hits_in ys xs s (IsPermutation-sym xs ys p) h;
}
