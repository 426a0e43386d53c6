-- Laws of `joined`: rows one after the other, each written to its own part of a buffer. Assumes nothing.
use mathlib.Core.Path.{◌≡◌, refl, sym, ap, ap₂, ◌∙◌}
use mathlib.Core.Bool.{Bool, true, false}
use mathlib.Core.List.{List, [], ◌++◌, append-nil}
use mathlib.Core.Logic.{⊎_elim}
use Prim.Native.Nat.{ℕ, zero, suc, ◌+◌, ◌-◌, ◌*◌, ◌≤◌, ◌<◌}
use native.Mathlib.Nat.{le_refl, le_trans, zero-mul, add-mul, one-mul, not-suc-le-zero}
use native.Mathlib.Numerals.{add-one}
use native.Mathlib.Omega.{arith}
use lib.ListN.{length, take, drop, length-append, length-drop}
use lib.Seq.{take-append-le, drop-append-le, drop-append_seam, take-length}
use Rattle.folds.specs.Fold.{pick, count, joined, onto}
use Rattle.folds.proofs.Below.{below_cases}
use Rattle.folds.proofs.Onto.{onto_none, onto_part}

-- tests that agree, and rows that agree where they are taken
pub joined_alike : (p q : ℕ → Bool) (g h : ℕ → List ℕ) (n : ℕ) → ((i : ℕ) → i < n → p i ≡ q i) → ((i : ℕ) → i < n → p i ≡ true → g i ≡ h i) → joined p g n ≡ joined q h n
unfolding joined
joined_alike p q g h zero e f = refl
joined_alike p q g h (suc n) e f =
    ap₂ (λ (a b : List ℕ). a ++ b) (joined_alike p q g h n (λ i w. e i (omega arith)) (λ i w. f i (omega arith)))
    (go (p n) refl ∙ ap (λ (b : Bool). pick b (h n) []) (e n (omega arith)))
  where
    go : (b : Bool) → p n ≡ b → pick b (g n) [] ≡ pick b (h n) []
    go true t = f n (omega arith) t
    go false t = refl

pub joined_same : (p : ℕ → Bool) (g h : ℕ → List ℕ) (n : ℕ) → ((i : ℕ) → i < n → g i ≡ h i) → joined p g n ≡ joined p h n
joined_same p g h n e = joined_alike p p g h n (λ i w. refl) (λ i w t. e i w)

module _ (p : ℕ → Bool) (g : ℕ → List ℕ) where
  pub joined_none : joined p g 0 ≡ []
  unfolding joined
  joined_none = refl

  pub joined_yes : (i : ℕ) → p i ≡ true → joined p g (i + 1) ≡ joined p g i ++ g i
  unfolding joined
  joined_yes i h = rw (add-one, h)

  pub joined_no : (i : ℕ) → p i ≡ false → joined p g (i + 1) ≡ joined p g i
  unfolding joined
  joined_no i h = rw (add-one, h, append-nil)

  yes_length : (i : ℕ) → p i ≡ true → length (joined p g (i + 1)) ≡ length (joined p g i) + length (g i)
  yes_length i h = rw (joined_yes i h, length-append)

  pub joined_mono : (i n : ℕ) → i ≤ n → length (joined p g i) ≤ length (joined p g n)
  unfolding joined
  joined_mono i zero h = let e : i ≡ 0 = omega arith in rw e (le_refl _)
  joined_mono i (suc n) h =
      ⊎_elim (λ (w : i < suc n). le_trans (joined_mono i n (omega arith)) (rw length-append (omega arith))) (λ e. rw e (le_refl _)) (below_cases i (suc n) (omega arith))

  -- rows of one length: as many as have p, times that length
  pub joined_rows : (k n : ℕ) → ((i : ℕ) → length (g i) ≡ k) → length (joined p g n) ≡ count p n * k
  unfolding joined count
  joined_rows k zero h = sym (zero-mul _)
  joined_rows k (suc n) h = simp (length-append, joined_rows k n h, add-mul) (ap (λ (x : ℕ). count p n * k + x) (row (p n)))
    where
      row : (b : Bool) → length (pick b (g n) []) ≡ pick b 1 0 * k
      row true = h n ∙ sym (one-mul _)
      row false = sym (zero-mul _)

  -- the row of i stands at its own part
  pub joined_part : (n i : ℕ) → i < n → p i ≡ true → take (length (g i)) (drop (length (joined p g i)) (joined p g n)) ≡ g i
  unfolding joined
  joined_part zero i w q = absurd (not-suc-le-zero w)
  joined_part (suc n) i w q =
      ⊎_elim
      (λ (v : i < n).
      let a : length (joined p g i) ≤ length (joined p g n) = joined_mono i n (omega arith) in
      let b : length (g i) ≤ length (drop (length (joined p g i)) (joined p g n)) = simp length-drop (omega (arith, yes_length i q, joined_mono (i + 1) n (omega arith))) in
      rw (drop-append-le (length (joined p g i)) (joined p g n) (pick (p n) (g n) []) a, take-append-le (length (g i)) _ (pick (p n) (g n) []) b) (joined_part n i v q))
      (λ (e : i ≡ n). let r : p n ≡ true = rw (← e) q in rw (e, r, drop-append_seam (joined p g n) (g n), take-length (g n)))
      (below_cases i n w)

  -- nothing more from k on
  pub joined_stop : (k n : ℕ) → k ≤ n → ((i : ℕ) → k ≤ i → i < n → pick (p i) (g i) [] ≡ []) → joined p g n ≡ joined p g k
  unfolding joined
  joined_stop k zero l e = let z : k ≡ 0 = omega arith in rw z refl
  joined_stop k (suc n) l e =
      ⊎_elim
      (λ (w : k < suc n). rw (e n (omega arith) (omega arith), append-nil) (joined_stop k n (omega arith) (λ i m v. e i m (omega arith))))
      (λ (w : k ≡ suc n). rw w refl)
      (below_cases k (suc n) (omega arith))

  pub joined_most : (k n : ℕ) → ((i : ℕ) → length (g i) ≤ k) → length (joined p g n) ≤ n * k
  unfolding joined
  joined_most k zero h = omega arith
  joined_most k (suc n) h = simp length-append (omega (arith, joined_most k n h, go (p n)))
    where
      go : (b : Bool) → length (pick b (g n) []) ≤ k
      go true = h n
      go false = omega arith

  -- ---- a loop that writes row i to its part where i has p; `at` is where the next part starts

  pub rows_start : (d : List ℕ) → d ≡ onto (joined p g 0) d
  rows_start d = rw (joined_none, onto_none)

  pub rows_zero : 0 ≡ length (joined p g 0)
  rows_zero = rw joined_none

  pub rows_put : (i at n : ℕ) (r : Bool) (d b b' row : List ℕ) → b ≡ onto (joined p g i) d → at ≡ length (joined p g i) → r ≡ p i → r ≡ true → n ≡ length (g i) → row ≡ g i
      → b' ≡ take at b ++ (row ++ drop (at + n - at) (drop at b)) → b' ≡ onto (joined p g (i + 1)) d
  rows_put i at n r d b b' row e ea q h en er t =
      onto_part (joined p g i) row d b b' at n e ea (en ∙ ap length (sym er)) t
      ∙ ap (λ (x : List ℕ). onto x d) (ap (λ (x : List ℕ). joined p g i ++ x) er ∙ sym (joined_yes i (sym q ∙ h)))

  pub rows_pass : (i : ℕ) (r : Bool) (d b b' : List ℕ) → b ≡ onto (joined p g i) d → r ≡ p i → r ≡ false → b' ≡ b → b' ≡ onto (joined p g (i + 1)) d
  rows_pass i r d b b' e q h t = t ∙ e ∙ ap (λ (x : List ℕ). onto x d) (sym (joined_no i (sym q ∙ h)))

  pub rows_at : (i at n at' : ℕ) (r : Bool) → at ≡ length (joined p g i) → r ≡ p i → r ≡ true → n ≡ length (g i) → at' ≡ at + n → at' ≡ length (joined p g (i + 1))
  rows_at i at n at' r e q h en t = omega (arith, yes_length i (sym q ∙ h))

  pub rows_stay : (i at at' : ℕ) (r : Bool) → at ≡ length (joined p g i) → r ≡ p i → r ≡ false → at' ≡ at → at' ≡ length (joined p g (i + 1))
  rows_stay i at at' r e q h t = t ∙ e ∙ ap length (sym (joined_no i (sym q ∙ h)))

  pub rows_room : (i m at n : ℕ) (r : Bool) (d b : List ℕ) → at ≡ length (joined p g i) → r ≡ p i → r ≡ true → n ≡ length (g i) → i < m
      → length (joined p g m) ≤ length d → length b ≡ length d → at + n ≤ length b
  rows_room i m at n r d b e q h en w k l = omega (arith, yes_length i (sym q ∙ h), joined_mono (i + 1) m (omega arith))

-- where every row below n is taken, and they are of one length
pub joined_exact : (p : ℕ → Bool) (g : ℕ → List ℕ) (k n : ℕ) → ((i : ℕ) → i < n → p i ≡ true) → ((i : ℕ) → i < n → length (g i) ≡ k) → length (joined p g n) ≡ n * k
unfolding joined
joined_exact p g k zero h l = omega arith
joined_exact p g k (suc n) h l = rw (h n (omega arith)) (simp length-append (omega (arith, l n (omega arith), joined_exact p g k n (λ i m. h i (omega arith)) (λ i m. l i (omega arith)))))
