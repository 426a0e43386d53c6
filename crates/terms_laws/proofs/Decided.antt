-- The paper's terms can be decided: each asks of finitely many tests and columns. Assumes nothing.
use mathlib.Core.Logic.{inl, inr, ⊎_elim}
use mathlib.Core.Path.{◌≡◌}
use Prim.Native.Nat.{ℕ, ◌<◌}
use native.Mathlib.Omega.{arith}
use Rattle.folds.proofs.Below.{lt_or_ge, eq_or_ne}
use Rattle.folds.proofs.Decide.{Decided, decided_not, decided_and, decided_or, decided_if, decided_map, decided_all, decided_some}
use Rattle.sets.specs.Sets.{bit}
use Rattle.table.specs.Table.{output_at, columns}
use Rattle.table.specs.declared.Goal.{Goal}
use Rattle.table.specs.declared.Goal.TheVariants.{Detect, Diagnose}
use Rattle.table.specs.declared.Table.{Table}
use Rattle.terms.specs.Terms.{Separates, SeparatedBy, GoalPair, Counts, Reaches, Idle, Outdoes, Aside}

decided_lt : (a b : ℕ) → Decided (a < b)
decided_lt a b = ⊎_elim (λ l. inl l) (λ l. inr (λ h. omega arith)) (lt_or_ge a b)

module _ (tb : Table) where
  pub decided_separates : (t a b : ℕ) → Decided (Separates tb t a b)
  decided_separates t a b = decided_not (eq_or_ne (output_at tb t a) (output_at tb t b))

  -- both columns of a goal pair are the table's
  pub pair_below : (goal : Goal) (a b : ℕ) → GoalPair goal tb a b → (a < columns tb) × (b < columns tb)
  pair_below Detect a b p = (omega (arith, p.1, p.2), p.2)
  pair_below Diagnose a b p = (omega (arith, p.0, p.1), p.1)

  decided_pair : (goal : Goal) (a b : ℕ) → Decided (GoalPair goal tb a b)
  decided_pair Detect a b =
      decided_map (λ p. (p.0, p.1.0, p.1.1)) (λ p. (p.0, (p.1, p.2)))
      (decided_and (eq_or_ne a 0) (decided_and (decided_lt a b) (decided_lt b (columns tb))))
  decided_pair Diagnose a b = decided_and (decided_lt a b) (decided_lt b (columns tb))

  -- what is asked of every goal pair
  decided_pairs : (goal : Goal) (P : ℕ → ℕ → Type 0) → ((a b : ℕ) → Decided (P a b)) → Decided ((a b : ℕ) → GoalPair goal tb a b → P a b)
  decided_pairs goal P d =
      decided_map
      (λ all a b p. let l = pair_below goal a b p in all a l.0 b l.1 p)
      (λ all a l b m p. all a b p)
      (decided_all (λ a. (b : ℕ) → b < columns tb → GoalPair goal tb a b → P a b)
      (λ a. decided_all (λ b. GoalPair goal tb a b → P a b) (λ b. decided_if (decided_pair goal a b) (d a b)) (columns tb)) (columns tb))

  decided_counts : (a b : ℕ) → Decided (Counts tb a b)
  decided_counts a b = decided_some (λ t. Separates tb t a b) (λ t. decided_separates t a b) tb.tests

  decided_separated : (s a b : ℕ) → Decided (SeparatedBy tb s a b)
  decided_separated s a b =
      decided_map (λ w. (w.0, w.1, w.2.0, w.2.1)) (λ w. (w.0, w.1, (w.2, w.3)))
      (decided_some (λ t. (bit s t ≡ 1) × Separates tb t a b) (λ t. decided_and (eq_or_ne (bit s t) 1) (decided_separates t a b)) tb.tests)

  pub decided_reaches : (goal : Goal) (s : ℕ) → Decided (Reaches tb goal s)
  decided_reaches goal s = decided_pairs goal (λ a b. Counts tb a b → SeparatedBy tb s a b) (λ a b. decided_if (decided_counts a b) (decided_separated s a b))

  decided_idle : (goal : Goal) (t : ℕ) → Decided (Idle tb goal t)
  decided_idle goal t = decided_pairs goal (λ a b. Separates tb t a b → ⊥) (λ a b. decided_not (decided_separates t a b))

  decided_outdoes : (goal : Goal) (u t : ℕ) → Decided (Outdoes tb goal u t)
  decided_outdoes goal u t =
      decided_and (decided_lt u t)
      (decided_pairs goal (λ a b. Separates tb t a b → Separates tb u a b) (λ a b. decided_if (decided_separates t a b) (decided_separates u a b)))

  pub decided_aside : (goal : Goal) (t : ℕ) → Decided (Aside tb goal t)
  decided_aside goal t = decided_or (decided_idle goal t) (decided_some (λ u. Outdoes tb goal u t) (λ u. decided_outdoes goal u t) tb.tests)
