-- A set of faults as bytes, one for each fault. Assumes nothing.
use mathlib.Core.Bool.{Bool, true, false}
use mathlib.Core.List.{List}
use mathlib.Core.Logic.{⊎_elim}
use mathlib.Core.Path.{◌≡◌, refl, sym, subst, ◌∙◌}
use Prim.Native.Nat.{ℕ, zero, suc, ◌+◌, ◌≤◌, ◌<◌}
use native.Mathlib.Omega.{arith}
use borrow.Author.Tests.{eqb-true, eqb-false}
use lib.Dec.{eqb}
use mir.Val.{bool_byte}
use denote.Param.Members.{Mut, Called}
use lib.ListN.{get_or, take, length-take}
use Rattle.std.proofs.lemmas.List.{get_or-take}
use Rattle.std.specs.Prelude.{Result}
use Rattle.std.specs.Array.{IsFromFnResult, IsFromFnResultFrom}
use Rattle.std.specs.Iterator.Runs.{CallKeepsClosure}
use Rattle.folds.specs.Fold.{listed, total}
use Rattle.folds.proofs.Below.{eq_or_ne}
use Rattle.folds.proofs.Gather.{listed_length, listed_get}
use Rattle.sets.specs.Sets.{bit, has}
use Rattle.table.specs.declared.Refusal.{Refusal}
use Rattle.flat.specs.Writes.{Lays}
use Rattle.flat.proofs.Round.{listed_is}

-- an array whose entry i a closure gives that computes h
module _ {F : Type 0} (g : Mut F (ℕ × Unit {0}) ℕ) (f : F) (h : ℕ → ℕ) (keeps : CallKeepsClosure g f) (ys : List ℕ) where
  each : (i n : ℕ) → ((k y : ℕ) (f' : F) → k < i + n → Called g f (k, tt) y f' → y ≡ h k) → IsFromFnResultFrom g f ys i n → (k : ℕ) → i ≤ k → k < i + n → get_or ys k 0 ≡ h k
  each i zero says r k l m = absurd (omega arith)
  each i (suc n) says (q, y, at, called, rest) k l m = ⊎_elim
      (λ (e : k ≡ i). rw e (at.1 0 ∙ says i y q (omega arith) called))
      (λ (ne : k ≡ i → ⊥). each (i + 1) n (λ j z f' o. says j z f' (omega arith)) (subst (λ s. IsFromFnResultFrom g s ys (i + 1) n) (keeps (i, tt) y q called) rest) k (omega (arith, ne)) (omega arith))
      (eq_or_ne k i)

  pub from_listed : (n : ℕ) → ((k y : ℕ) (f' : F) → k < n → Called g f (k, tt) y f' → y ≡ h k) → IsFromFnResult g f ys n → ys ≡ listed h n
  from_listed n says r =
      sym (listed_is h n ys r.long (λ k l. sym (each 0 n (λ j y f' o. says j y f' (omega arith)) r.each k (omega arith) (omega arith))))

-- the first n marks of all
first_marks : (h : ℕ → ℕ) (n m : ℕ) → n ≤ m → listed h n ≡ take n (listed h m)
first_marks h n m l =
    listed_is h n (take n (listed h m)) (omega (arith, length-take n (listed h m), listed_length h m)) (λ i k. sym (get_or-take n (listed h m) i 0 k ∙ listed_get h m i (omega arith)))

bit_small : (s f : ℕ) → bit s f ≤ 1
unfolding bit
bit_small s f = omega arith

pub has_bit : (s f v : ℕ) → v ≡ bool_byte (has s f) → v ≡ bit s f
unfolding has
has_bit s f v e = go (eqb (bit s f) 1) refl e
  where
    go : (b : Bool) → eqb (bit s f) 1 ≡ b → v ≡ bool_byte b → v ≡ bit s f
    go true q e = e ∙ sym (eqb-true _ _ q)
    go false q e = omega (arith, e, eqb-false _ _ q, bit_small s f)

pub total_small : (s n : ℕ) → total (bit s) n ≤ n
unfolding total
total_small s zero = omega arith
total_small s (suc n) = omega (arith, total_small s n, bit_small s n)

pub marked_first : (s n m : ℕ) (marks d e : List ℕ) (a : Result ℕ Refusal) → m ≡ total (bit s) n → marks ≡ listed (bit s) 60 → n ≤ 60 → Lays m (take n marks) d a e → Lays (total (bit s) n) (listed (bit s) n) d a e
marked_first s n m marks d e a em ek l w =
    rw (first_marks (bit s) n 60 l, ← ek, ← em) w
