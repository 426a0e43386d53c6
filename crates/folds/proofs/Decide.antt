-- Questions about the numbers below a bound that can be decided. Assumes nothing.
use mathlib.Core.Path.{sym, subst}
use mathlib.Core.Logic.{◌⊎◌, inl, inr, ⊎_elim}
use Prim.Native.Nat.{ℕ, zero, suc, ◌≤◌, ◌<◌}
use native.Mathlib.Omega.{arith}
use Rattle.folds.proofs.Below.{below_cases}

-- it holds, or it does not
abbrev pub Decided : Type 0 → Type 0
Decided P = P ⊎ (P → ⊥)

pub decided_map : {P Q : Type 0} → (P → Q) → (Q → P) → Decided P → Decided Q
decided_map f g (inl p) = inl (f p)
decided_map f g (inr n) = inr (λ q. n (g q))

pub decided_not : {P : Type 0} → Decided P → Decided (P → ⊥)
decided_not (inl p) = inr (λ n. n p)
decided_not (inr n) = inl n

pub decided_and : {P Q : Type 0} → Decided P → Decided Q → Decided (P × Q)
decided_and (inl p) (inl q) = inl (p, q)
decided_and (inl p) (inr n) = inr (λ w. n w.1)
decided_and (inr n) q = inr (λ w. n w.0)

pub decided_or : {P Q : Type 0} → Decided P → Decided Q → Decided (P ⊎ Q)
decided_or (inl p) q = inl (inl p)
decided_or (inr n) (inl q) = inl (inr q)
decided_or (inr n) (inr m) = inr (λ w. ⊎_elim (λ p. n p) (λ q. m q) w)

pub decided_if : {P Q : Type 0} → Decided P → Decided Q → Decided (P → Q)
decided_if p (inl q) = inl (λ w. q)
decided_if (inl p) (inr m) = inr (λ f. m (f p))
decided_if (inr n) (inr m) = inl (λ w. absurd (n w))

module _ (P : ℕ → Type 0) (d : (i : ℕ) → Decided (P i)) where
  -- all below n have it, or one lacks it
  pub all_below : (n : ℕ) → ((i : ℕ) → i < n → P i) ⊎ ((i : ℕ) × (i < n) × (P i → ⊥))
  all_below zero = inl (λ i l. absurd (omega arith))
  all_below (suc n) = go (all_below n) (d n)
    where
      go : ((i : ℕ) → i < n → P i) ⊎ ((i : ℕ) × (i < n) × (P i → ⊥)) → Decided (P n) → ((i : ℕ) → i < suc n → P i) ⊎ ((i : ℕ) × (i < suc n) × (P i → ⊥))
      go (inr (i, l, no-i)) q = inr (i, omega arith, no-i)
      go (inl all) (inr no-n) = inr (n, omega arith, no-n)
      go (inl all) (inl q) = inl (λ i l. ⊎_elim (λ w. all i w) (λ e. subst P (sym e) q) (below_cases i n l))

  pub decided_all : (n : ℕ) → Decided ((i : ℕ) → i < n → P i)
  decided_all n = ⊎_elim (λ all. inl all) (λ w. inr (λ all. w.2 (all w.0 w.1))) (all_below n)

  -- one below n has it, or none
  pub decided_some : (n : ℕ) → Decided ((i : ℕ) × (i < n) × P i)
  decided_some zero = inr (λ w. omega (arith, w.1))
  decided_some (suc n) = go (decided_some n) (d n)
    where
      go : Decided ((i : ℕ) × (i < n) × P i) → Decided (P n) → Decided ((i : ℕ) × (i < suc n) × P i)
      go (inl (i, l, w)) q = inl (i, omega arith, w)
      go (inr none) (inl q) = inl (n, omega arith, q)
      go (inr none) (inr no-n) = inr (λ w. ⊎_elim (λ l. none (w.0, l, w.2)) (λ e. no-n (subst P e w.2)) (below_cases w.0 n w.1))

-- ---- the least of the numbers below m that have P, in an order in which any two of them can be compared

module _ (P : ℕ → Type 0) (R : ℕ → ℕ → Type 0) where
  -- x is below n and has P, and R puts it before every such number
  pub record LeastBelow (n x : ℕ) : Type 0 where
    pub below : x < n
    pub has : P x
    pub least : (y : ℕ) → y < n → P y → R x y

  module _ (d : (i : ℕ) → Decided (P i)) (m : ℕ) (compare : (x y : ℕ) → x < m → y < m → R x y ⊎ R y x) (trans : (x y z : ℕ) → R x y → R y z → R x z) where
    reflexive : (x : ℕ) → x < m → R x x
    reflexive x l = ⊎_elim (λ r. r) (λ r. r) (compare x x l l)

    first_least : (n : ℕ) → n < m → ((y : ℕ) → y < n → P y → ⊥) → P n → LeastBelow (suc n) n
    first_least n l none q = record {
      below = omega arith;
      has = q;
      least = λ y w h. ⊎_elim (λ v. absurd (none y v h)) (λ e. subst (R n) (sym e) (reflexive n l)) (below_cases y n w);
    }

    keep_least : (n x : ℕ) → LeastBelow n x → (P n → R x n) → LeastBelow (suc n) x
    keep_least n x b r = record {
      below = omega (arith, b.below);
      has = b.has;
      least = λ y w h. ⊎_elim (λ v. b.least y v h) (λ e. subst (R x) (sym e) (r (subst P e h))) (below_cases y n w);
    }

    take_least : (n x : ℕ) → n < m → LeastBelow n x → P n → R n x → LeastBelow (suc n) n
    take_least n x l b q r = record {
      below = omega arith;
      has = q;
      least = λ y w h. ⊎_elim (λ v. trans n x y r (b.least y v h)) (λ e. subst (R n) (sym e) (reflexive n l)) (below_cases y n w);
    }

    -- no number below n has P, or there is a least one
    pub least_or_none : (n : ℕ) → n ≤ m → ((x : ℕ) × LeastBelow n x) ⊎ ((y : ℕ) → y < n → P y → ⊥)
    least_or_none zero l = inr (λ y w h. omega arith)
    least_or_none (suc n) l = go (least_or_none n (omega arith)) (d n)
      where
        go : ((x : ℕ) × LeastBelow n x) ⊎ ((y : ℕ) → y < n → P y → ⊥) → Decided (P n) → ((x : ℕ) × LeastBelow (suc n) x) ⊎ ((y : ℕ) → y < suc n → P y → ⊥)
        go (inr none) (inl q) = inl (n, first_least n l none q)
        go (inr none) (inr no-n) = inr (λ y w h. ⊎_elim (λ v. none y v h) (λ e. no-n (subst P e h)) (below_cases y n w))
        go (inl (x, b)) (inr no-n) = inl (x, keep_least n x b (λ q. absurd (no-n q)))
        go (inl (x, b)) (inl q) =
            ⊎_elim (λ r. inl (x, keep_least n x b (λ w. r))) (λ r. inl (n, take_least n x l b q r)) (compare x n (omega (arith, b.below)) l)

    pub least_exists : (n y : ℕ) → n ≤ m → y < n → P y → (x : ℕ) × LeastBelow n x
    least_exists n y l w h = ⊎_elim (λ x. x) (λ none. absurd (none y w h)) (least_or_none n l)
