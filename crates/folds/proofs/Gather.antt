-- Laws of `gather` and `listed`: single values, one store a turn. Assumes nothing.
use mathlib.Core.Path.{◌≡◌, refl, sym, ap, ◌∙◌}
use mathlib.Core.Bool.{Bool, true, false}
use mathlib.Core.List.{List, [], ◌∷◌, ◌++◌}
use mathlib.Core.Logic.{⊎_elim}
use Prim.Native.Nat.{ℕ, zero, suc, ◌+◌, ◌≤◌, ◌<◌}
use native.Mathlib.Nat.{le_antisymm, mul-one}
use native.Mathlib.Omega.{arith}
use lib.ListN.{length, get_or, set, get_or-append}
use lib.Seq.{get_or_at}
use Rattle.folds.specs.Fold.{count, joined, single, gather, always, listed, onto}
use Rattle.folds.proofs.Below.{below_cases}
use Rattle.folds.proofs.Count.{count_less}
use Rattle.folds.proofs.Onto.{onto_none, onto_get, onto_store}
use Rattle.folds.proofs.Joined.{joined_alike, joined_none, joined_yes, joined_no, joined_rows}

module _ (p : ℕ → Bool) (f : ℕ → ℕ) where
  pub gather_length : (n : ℕ) → length (gather p f n) ≡ count p n
  unfolding single
  gather_length n = joined_rows p (single f) 1 n (λ i. refl) ∙ mul-one _

  pub gather_yes : (i : ℕ) → p i ≡ true → gather p f (i + 1) ≡ gather p f i ++ (f i ∷ [])
  unfolding single
  gather_yes i h = joined_yes p (single f) i h

  -- ---- a loop that stores f i at place j where i has p, with j ≡ count p i

  pub gather_start : (d : List ℕ) → d ≡ onto (gather p f 0) d
  gather_start d = rw (joined_none p (single f), onto_none)

  pub gather_store : (i j v : ℕ) (r : Bool) (d s s' : List ℕ) → s ≡ onto (gather p f i) d → j ≡ count p i → j < length s → length s ≡ length d
      → r ≡ p i → r ≡ true → v ≡ f i → s' ≡ set s j v → s' ≡ onto (gather p f (i + 1)) d
  gather_store i j v r d s s' e k w l q h g t =
      t
      ∙ ap (λ (x : List ℕ). set x j v) e
      ∙ ap (λ (m : ℕ). set (onto (gather p f i) d) m v) (k ∙ sym (gather_length i))
      ∙ onto_store (gather p f i) d v (omega (arith, gather_length i))
      ∙ ap (λ (x : List ℕ). onto x d) (ap (λ (m : ℕ). gather p f i ++ (m ∷ [])) g ∙ sym (gather_yes i (sym q ∙ h)))

  pub gather_pass : (i : ℕ) (r : Bool) (d s s' : List ℕ) → s ≡ onto (gather p f i) d → r ≡ p i → r ≡ false → s' ≡ s → s' ≡ onto (gather p f (i + 1)) d
  gather_pass i r d s s' e q h t = t ∙ e ∙ ap (λ (x : List ℕ). onto x d) (sym (joined_no p (single f) i (sym q ∙ h)))

  pub gather_end : (n i : ℕ) (d s : List ℕ) → s ≡ onto (gather p f i) d → i ≤ n → n ≤ i → s ≡ onto (gather p f n) d
  gather_end n i d s e h k = e ∙ ap (λ (m : ℕ). onto (gather p f m) d) (le_antisymm h k)

-- values that agree where they are taken are gathered to one list
pub gather_agree : (p : ℕ → Bool) (f h : ℕ → ℕ) (n : ℕ) → ((i : ℕ) → i < n → p i ≡ true → f i ≡ h i) → gather p f n ≡ gather p h n
unfolding single
gather_agree p f h n e = joined_alike p p (single f) (single h) n (λ i w. refl) (λ i w q. ap (λ (x : ℕ). x ∷ []) (e i w q))

gather_last : (p : ℕ → Bool) (f : ℕ → ℕ) (n : ℕ) → p n ≡ true → get_or (gather p f (suc n)) (count p n) 0 ≡ f n
unfolding joined single
gather_last p f n q = rw q (get_or_at (gather p f n) (f n) [] 0 (count p n) (gather_length p f n))

-- the value of i stands at its own place
pub gather_get : (p : ℕ → Bool) (f : ℕ → ℕ) (n i : ℕ) → i < n → p i ≡ true → get_or (gather p f n) (count p i) 0 ≡ f i
unfolding joined
gather_get p f zero i w h = absurd (omega arith)
gather_get p f (suc n) i w h =
    ⊎_elim
    (λ v. get_or-append (gather p f n) _ 0 (count p i) (omega (arith, gather_length p f n, count_less p i n v h)) ∙ gather_get p f n i v h)
    (λ (e : i ≡ n). let q : p n ≡ true = rw e at h in rw e (gather_last p f n q))
    (below_cases i n w)

-- the place of the next store lies in a buffer that is as long as the whole answer
pub gather_room : (p : ℕ → Bool) (n i j : ℕ) (r : Bool) (d s : List ℕ) → j ≡ count p i → i < n → r ≡ p i → r ≡ true → length s ≡ length d → length d ≡ count p n → j < length s
gather_room p n i j r d s e w q h l m = omega (arith, count_less p i n w (sym q ∙ h))

-- ---- a value for each number

pub always_true : (i : ℕ) → always i ≡ true
unfolding always
always_true i = refl

count_always : (n : ℕ) → count always n ≡ n
unfolding count always
count_always zero = refl
count_always (suc n) = omega (arith, count_always n)

module _ (f : ℕ → ℕ) where
  pub listed_length : (n : ℕ) → length (listed f n) ≡ n
  listed_length n = gather_length always f n ∙ count_always n

  listed_more : (i : ℕ) → listed f (i + 1) ≡ listed f i ++ (f i ∷ [])
  unfolding single always
  listed_more i = joined_yes always (single f) i refl

  pub listed_start : (d : List ℕ) → d ≡ onto (listed f 0) d
  listed_start d = gather_start always f d

  pub listed_store : (i : ℕ) (d : List ℕ) (v : ℕ) → i < length d → v ≡ f i → set (onto (listed f i) d) i v ≡ onto (listed f (i + 1)) d
  listed_store i d v h e =
      ap (λ (k : ℕ). set (onto (listed f i) d) k v) (sym (listed_length i))
      ∙ onto_store (listed f i) d v (omega (arith, listed_length i))
      ∙ ap (λ (x : List ℕ). onto x d) (ap (λ (m : ℕ). listed f i ++ (m ∷ [])) e ∙ sym (listed_more i))

  pub listed_get : (n i : ℕ) → i < n → get_or (listed f n) i 0 ≡ f i
  unfolding joined single always
  listed_get zero i h = absurd (omega arith)
  listed_get (suc n) i h =
      ⊎_elim
      (λ w. get_or-append (listed f n) (f n ∷ []) 0 i (omega (arith, listed_length n)) ∙ listed_get n i w)
      (λ e. rw e (get_or_at (listed f n) (f n) [] 0 n (listed_length n)))
      (below_cases i n h)

  pub listed_at : (n i : ℕ) (d : List ℕ) → i < n → get_or (onto (listed f n) d) i 0 ≡ f i
  listed_at n i d h = onto_get (listed f n) d i (omega (arith, listed_length n)) ∙ listed_get n i h
