-- What every entry of a list has, and of rows one after the other. Assumes nothing.
use mathlib.Core.Bool.{Bool, true, false}
use mathlib.Core.List.{List, [], ◌∷◌, ◌++◌}
use mathlib.Core.Logic.{⊎_elim}
use mathlib.Core.Path.{◌≡◌, refl}
use Prim.Native.Nat.{ℕ, zero, suc, ◌<◌}
use native.Mathlib.Nat.{le_of_suc-le-suc}
use native.Mathlib.Omega.{arith}
use lib.ListN.{length, get_or}
use Rattle.folds.specs.Fold.{pick, joined, single, gather}
use Rattle.folds.proofs.Bools.{clash}
use Rattle.folds.proofs.Below.{below_cases}

-- every entry has Q
abbrev pub AllOf : (ℕ → Type 0) → List ℕ → Type 0
AllOf Q xs = (k : ℕ) → k < length xs → Q (get_or xs k 0)

module _ (Q : ℕ → Type 0) where
  -- the same, one entry after the other
  abbrev pub Each : List ℕ → Type 0
  Each [] = Unit {0}
  Each (x ∷ xs) = Q x × Each xs

  pub all_of : (xs : List ℕ) → Each xs → AllOf Q xs
  all_of [] e k l = absurd (omega arith)
  all_of (x ∷ xs) e zero l = e.0
  all_of (x ∷ xs) e (suc k) l = all_of xs e.1 k (le_of_suc-le-suc l)

  -- past its end a list is read as 0
  pub all_read : Q 0 → (xs : List ℕ) → AllOf Q xs → (k : ℕ) → Q (get_or xs k 0)
  all_read q [] f k = q
  all_read q (x ∷ xs) f zero = f zero (omega arith)
  all_read q (x ∷ xs) f (suc k) = all_read q xs (λ k l. f (suc k) (omega arith)) k

  pub all_append : (xs ys : List ℕ) → AllOf Q xs → AllOf Q ys → AllOf Q (xs ++ ys)
  all_append [] ys f g k l = g k l
  all_append (x ∷ xs) ys f g zero l = f zero (omega arith)
  all_append (x ∷ xs) ys f g (suc k) l = all_append xs ys (λ k l. f (suc k) (omega arith)) g k (le_of_suc-le-suc l)

  all_left : (xs ys : List ℕ) → AllOf Q (xs ++ ys) → AllOf Q xs
  all_left [] ys h k l = absurd (omega arith)
  all_left (x ∷ xs) ys h zero l = h zero (omega arith)
  all_left (x ∷ xs) ys h (suc k) l = all_left xs ys (λ k l. h (suc k) (omega arith)) k (le_of_suc-le-suc l)

  all_right : (xs ys : List ℕ) → AllOf Q (xs ++ ys) → AllOf Q ys
  all_right [] ys h k l = h k l
  all_right (x ∷ xs) ys h k l = all_right xs ys (λ k l. h (suc k) (omega arith)) k l

  module _ (p : ℕ → Bool) (g : ℕ → List ℕ) where
    pub joined_all : (n : ℕ) → ((i : ℕ) → i < n → p i ≡ true → AllOf Q (g i)) → AllOf Q (joined p g n)
    unfolding joined
    joined_all zero h k l = absurd (omega arith)
    joined_all (suc n) h k l = all_append (joined p g n) (pick (p n) (g n) []) (joined_all n (λ i m. h i (omega arith))) (go (p n) refl) k l
      where
        go : (b : Bool) → p n ≡ b → AllOf Q (pick b (g n) [])
        go true e = h n (omega arith) e
        go false e = λ k l. absurd (omega arith)

    pub joined_at : (n : ℕ) → AllOf Q (joined p g n) → (i : ℕ) → i < n → p i ≡ true → AllOf Q (g i)
    unfolding joined
    joined_at zero h i l e k m = absurd (omega arith)
    joined_at (suc n) h i l e k m =
        ⊎_elim (λ v. joined_at n (all_left (joined p g n) (pick (p n) (g n) []) h) i v e k m)
        (λ (q : i ≡ n). go (p n) (rw q at e) (all_right (joined p g n) (pick (p n) (g n) []) h) q)
        (below_cases i n l)
      where
        go : (b : Bool) → b ≡ true → AllOf Q (pick b (g n) []) → i ≡ n → Q (get_or (g i) k 0)
        go true t w q = rw q (w k (rw q at m))
        go false t w q = clash false t refl

  -- ---- single values

  module _ (p : ℕ → Bool) (f : ℕ → ℕ) (n : ℕ) where
    pub gather_all : ((i : ℕ) → i < n → p i ≡ true → Q (f i)) → AllOf Q (gather p f n)
    unfolding single
    gather_all h = joined_all p (single f) n (λ i l e. all_of (f i ∷ []) (h i l e, tt))

    pub gather_at : AllOf Q (gather p f n) → (i : ℕ) → i < n → p i ≡ true → Q (f i)
    unfolding single
    gather_at h i l e = joined_at p (single f) n h i l e 0 (omega arith)
