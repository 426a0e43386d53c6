-- Laws of the order of sets: it is total, antisymmetric and transitive, and of two tests the lower comes first. Assumes nothing.
use mathlib.Core.Path.{◌≡◌, refl, sym, ap, ◌∙◌}
use mathlib.Core.Logic.{◌⊎◌, inl, inr, ⊎_elim}
use Prim.Native.Nat.{ℕ, zero, suc, ◌^◌, ◌≤◌, ◌<◌}
use native.Mathlib.Omega.{arith}
use Rattle.folds.proofs.Below.{below_cases, lt_or_ge, eq_or_ne}
use Rattle.sets.specs.Sets.{bit, weight, Before, Precedes}
use Rattle.sets.proofs.Bits.{bit_cases, bits_equal, some_bit, bit_below}
use Rattle.sets.proofs.Flip.{pow_bit, pow_bit_other}
use Rattle.sets.proofs.Weight.{weight_empty, weight_out}

-- which way the order goes: the set of a lower test alone comes before that of a higher one
pub lower_first : (t u : ℕ) → t < u → Before (2 ^ t) (2 ^ u)
lower_first t u l =
    (t, pow_bit t, pow_bit_other u t (λ e. omega arith), λ i m. pow_bit_other t i (λ e. omega arith) ∙ sym (pow_bit_other u i (λ e. omega arith)))

pub before_not : (s s' : ℕ) → Before s s' → Before s' s → ⊥
before_not s s' (i, a, b, e) (j, a', b', e') =
    ⊎_elim (λ l. omega (arith, e' i l))
    (λ l. ⊎_elim (λ m. omega (arith, e j m)) (λ m. let q : i ≡ j = omega arith in omega (arith, ap (bit s) q)) (lt_or_ge j i)) (lt_or_ge i j)

pub before_trans : (s s' s'' : ℕ) → Before s s' → Before s' s'' → Before s s''
before_trans s s' s'' (i, a, b, e) (j, a', b', e') =
    ⊎_elim (λ (l : i < j). (i, a, sym (e' i l) ∙ b, λ u m. e u m ∙ e' u (omega arith)))
    (λ (l : j ≤ i). ⊎_elim
    (λ (m : j < i). (j, e j m ∙ a', b', λ u k. e u (omega arith) ∙ e' u k))
    (λ (m : i ≤ j). let q : i ≡ j = omega arith in absurd (omega (arith, ap (bit s') q))) (lt_or_ge j i)) (lt_or_ge i j)

-- two sets agree in the tests below n, or one of them comes first
compare_below : (s s' n : ℕ) → ((t : ℕ) → t < n → bit s t ≡ bit s' t) ⊎ (Before s s' ⊎ Before s' s)
compare_below s s' zero = inl (λ t l. absurd (omega arith))
compare_below s s' (suc n) = go (compare_below s s' n) (bit_cases s n) (bit_cases s' n)
  where
    same : ((t : ℕ) → t < n → bit s t ≡ bit s' t) → bit s n ≡ bit s' n → (t : ℕ) → t < suc n → bit s t ≡ bit s' t
    same all q t l = ⊎_elim (λ m. all t m) (λ e. ap (bit s) e ∙ q ∙ ap (bit s') (sym e)) (below_cases t n l)

    go : ((t : ℕ) → t < n → bit s t ≡ bit s' t) ⊎ (Before s s' ⊎ Before s' s) → (bit s n ≡ 0) ⊎ (bit s n ≡ 1) → (bit s' n ≡ 0) ⊎ (bit s' n ≡ 1)
        → ((t : ℕ) → t < suc n → bit s t ≡ bit s' t) ⊎ (Before s s' ⊎ Before s' s)
    go (inr b) x y = inr b
    go (inl all) (inl x) (inl y) = inl (same all (x ∙ sym y))
    go (inl all) (inr x) (inr y) = inl (same all (x ∙ sym y))
    go (inl all) (inr x) (inl y) = inr (inl (n, x, y, all))
    go (inl all) (inl x) (inr y) = inr (inr (n, y, x, λ u l. sym (all u l)))

module _ (w : ℕ → ℕ) where
  pub precedes_weight : (s s' : ℕ) → Precedes w s s' → weight w s ≤ weight w s'
  precedes_weight s s' (inl l) = omega arith
  precedes_weight s s' (inr (e, q)) = omega arith

  pub precedes_refl : (s : ℕ) → Precedes w s s
  precedes_refl s = inr (refl, inl refl)

  pub precedes_antisym : (s s' : ℕ) → Precedes w s s' → Precedes w s' s → s ≡ s'
  precedes_antisym s s' (inl l) q = absurd (omega (arith, precedes_weight s' s q))
  precedes_antisym s s' (inr (n, inl e)) q = e
  precedes_antisym s s' (inr (n, inr b)) (inl l) = absurd (omega arith)
  precedes_antisym s s' (inr (n, inr b)) (inr (n', inl e)) = sym e
  precedes_antisym s s' (inr (n, inr b)) (inr (n', inr b')) = absurd (before_not s s' b b')

  pub precedes_trans : (s s' s'' : ℕ) → Precedes w s s' → Precedes w s' s'' → Precedes w s s''
  precedes_trans s s' s'' (inl l) q = inl (omega (arith, precedes_weight s' s'' q))
  precedes_trans s s' s'' (inr (n, o)) (inl l) = inl (omega arith)
  precedes_trans s s' s'' (inr (n, o)) (inr (n', o')) = inr (n ∙ n', go o o')
    where
      go : (s ≡ s') ⊎ Before s s' → (s' ≡ s'') ⊎ Before s' s'' → (s ≡ s'') ⊎ Before s s''
      go (inl e) (inl e') = inl (e ∙ e')
      go (inl e) (inr b) = inr (rw e b)
      go (inr b) (inl e) = inr (rw (← e) b)
      go (inr b) (inr b') = inr (before_trans s s' s'' b b')

  -- of two sets below 2 ^ n one precedes the other
  pub precedes_total : (n s s' : ℕ) → s < 2 ^ n → s' < 2 ^ n → Precedes w s s' ⊎ Precedes w s' s
  precedes_total n s s' h h' = ⊎_elim
      (λ l. inl (inl l))
      (λ l. ⊎_elim (λ m. inr (inl m)) (λ m. equal (omega arith) (compare_below s s' n)) (lt_or_ge (weight w s') (weight w s)))
      (lt_or_ge (weight w s) (weight w s'))
    where
      equal : weight w s ≡ weight w s' → ((t : ℕ) → t < n → bit s t ≡ bit s' t) ⊎ (Before s s' ⊎ Before s' s) → Precedes w s s' ⊎ Precedes w s' s
      equal e (inl all) = inl (inr (e, inl (bits_equal n s s' h h' all)))
      equal e (inr (inl b)) = inl (inr (e, inr b))
      equal e (inr (inr b)) = inr (inr (sym e, inr b))

  -- where every test weighs something the empty set comes first
  pub empty_first : ((t : ℕ) → 0 < w t) → (s : ℕ) → s < 2 ^ 24 → Precedes w 0 s
  empty_first positive s h = ⊎_elim
      (λ (e : s ≡ 0). inr (ap (weight w) (sym e), inl (sym e)))
      (λ (ne : s ≡ 0 → ⊥). let b = some_bit s ne in inl (omega (arith, weight_empty w, weight_out w s b.0 (bit_below 24 s b.0 h b.1) b.1, positive b.0)))
      (eq_or_ne s 0)

-- {0} comes before {1}, and {0, 3} before {1, 2}
example_order : Before 1 2 × Before 9 6
unfolding bit
example_order = ((0, refl, refl, λ u l. absurd (omega arith)), (0, refl, refl, λ u l. absurd (omega arith)))
