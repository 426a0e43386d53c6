-- The stage that fits a table, in words; the code's test of it holds exactly then. Assumes nothing.
use mathlib.Core.Bool.{Bool, true, false, not}
use mathlib.Core.Logic.{⊎_elim}
use mathlib.Core.Path.{◌≡◌, refl}
use Prim.Native.Nat.{ℕ, ◌+◌, ◌≤◌, ◌<◌}
use native.Mathlib.Omega.{arith}
use borrow.Author.Tests.{lt-ltb, le-ltb, eq-eqb, ne_eqb, ltb-true, ltb-false, leb-false, eqb-true, eqb-false, not-true}
use lib.Dec.{ltb, leb, eqb}
use Rattle.folds.specs.Fold.{both, either}
use Rattle.folds.proofs.Below.{lt_or_ge}
use Rattle.folds.proofs.Bools.{clash, both_left, both_right, either_second, either_left, either_right}
use Rattle.folds.proofs.Every.{every_at, every_of}
use Rattle.table.specs.Table.{output_at}
use Rattle.table.specs.declared.Table.{Table}
use Rattle.book.specs.Sound.{order_of, correct_at, fault_correct, correct_from, stage_fits}
use Rattle.records.specs.Step.{rank_of, not_after}
use Rattle.records.specs.declared.Stage.{Stage}
use Rattle.records.specs.declared.Stage.TheVariants.{Tests, Faults, Responses, Ended}

-- the responses from a first one on are the correct outputs
abbrev pub Correct : Table → ℕ → Type 0
Correct tb first = (t f : ℕ) → t < tb.tests → f < tb.faults → first ≤ order_of f t → output_at tb t 0 ≡ output_at tb t (f + 1)

abbrev pub Fits : Stage → Table → Type 0
Fits Tests tb = tb.faults ≡ 0
Fits Faults tb = (0 < tb.faults) × Correct tb 0
Fits (Responses f t) tb = (t < tb.tests) × (f < tb.faults) × (output_at tb t 0 ≡ output_at tb t (f + 1) → ⊥) × Correct tb (order_of f t + 1)
Fits Ended tb = Unit {0}

-- ---- the code's test

correct_tested : (tb : Table) (first : ℕ) → Correct tb first → correct_from tb.cells tb.tests tb.faults first ≡ true
unfolding correct_from fault_correct correct_at
correct_tested tb first c =
    every_of (fault_correct tb.cells tb.tests first) tb.faults λ f l.
    every_of (correct_at tb.cells first f) tb.tests λ t k.
    ⊎_elim
    (λ (w : order_of f t < first). either_left (ltb (order_of f t) first) _ (lt-ltb _ _ w))
    (λ (w : first ≤ order_of f t). either_right (ltb (order_of f t) first) _ (eq-eqb _ _ (c t f k l w)))
    (lt_or_ge (order_of f t) first)

tested_correct : (tb : Table) (first : ℕ) → correct_from tb.cells tb.tests tb.faults first ≡ true → Correct tb first
unfolding correct_from fault_correct correct_at
tested_correct tb first h t f k l w =
    let row = every_at (fault_correct tb.cells tb.tests first) tb.faults f h l in
    eqb-true _ _ (either_second (ltb (order_of f t) first) _ (every_at (correct_at tb.cells first f) tb.tests t row k) (le-ltb _ _ w))

pub fits_tested : (stage : Stage) (tb : Table) → Fits stage tb → stage_fits stage tb ≡ true
fits_tested Tests tb g = eq-eqb _ _ g
fits_tested Faults tb g =
    let ne : tb.faults ≡ 0 → ⊥ = λ e. omega (arith, g.0) in
    rw (ne_eqb tb.faults 0 ne) (correct_tested tb 0 g.1)
fits_tested (Responses f t) tb g =
    rw (lt-ltb t tb.tests g.0, lt-ltb f tb.faults g.1, ne_eqb (output_at tb t 0) (output_at tb t (f + 1)) g.2) (correct_tested tb (order_of f t + 1) g.3)
fits_tested Ended tb g = refl

pub tested_fits : (stage : Stage) (tb : Table) → stage_fits stage tb ≡ true → Fits stage tb
tested_fits Tests tb e = eqb-true _ _ e
tested_fits Faults tb e =
    (some (eqb-false _ _ (not-true _ (both_left (not (eqb tb.faults 0)) _ e))), tested_correct tb 0 (both_right (not (eqb tb.faults 0)) _ e))
  where
    some : (tb.faults ≡ 0 → ⊥) → 0 < tb.faults
    some ne = ⊎_elim (λ (h : 0 < tb.faults). h) (λ (h : tb.faults ≤ 0). absurd (ne (omega arith))) (lt_or_ge 0 tb.faults)
tested_fits (Responses f t) tb e =
    let e₁ = both_right (ltb t tb.tests) _ e in
    let e₂ = both_right (ltb f tb.faults) _ e₁ in
    let e₃ = both_right (not (eqb (output_at tb t 0) (output_at tb t (f + 1)))) _ e₂ in
    (ltb-true _ _ (both_left (ltb t tb.tests) _ e), ltb-true _ _ (both_left (ltb f tb.faults) _ e₁), eqb-false _ _ (not-true _ (both_left (not (eqb (output_at tb t 0) (output_at tb t (f + 1)))) _ e₂)), tested_correct tb (order_of f t + 1) e₃)
tested_fits Ended tb e = tt

-- ---- what a stage says of the table, before the next record

pub no_fault : (stage : Stage) (tb : Table) → Fits stage tb → ltb 0 (rank_of stage) ≡ false → tb.faults ≡ 0
no_fault Tests tb g e = g
no_fault Faults tb g e = absurd (omega (arith, ltb-false 0 1 e))
no_fault (Responses f t) tb g e = absurd (omega (arith, ltb-false 0 2 e))
no_fault Ended tb g e = absurd (omega (arith, ltb-false 0 3 e))

pub no_response : (stage : Stage) (tb : Table) → Fits stage tb → ltb 1 (rank_of stage) ≡ false → Correct tb 0
no_response Tests tb g e = λ t f a b c. absurd (omega arith)
no_response Faults tb g e = g.1
no_response (Responses f t) tb g e = absurd (omega (arith, ltb-false 1 2 e))
no_response Ended tb g e = absurd (omega (arith, ltb-false 1 3 e))

-- neither the fault is lower, nor it is the same and the test no higher
later : (f t g u : ℕ) → u < 24 → either (ltb f g) (both (eqb f g) (leb t u)) ≡ false → order_of g u < order_of f t
later f t g u h e = go (ltb f g) (eqb f g) (leb t u) refl refl refl e
  where
    go : (a b c : Bool) → ltb f g ≡ a → eqb f g ≡ b → leb t u ≡ c → either a (both b c) ≡ false → order_of g u < order_of f t
    go true b c p q r e = clash true refl e
    go false true true p q r e = clash true refl e
    go false true false p q r e = omega (arith, eqb-true f g q, leb-false t u r)
    go false false c p q r e =
        ⊎_elim (λ (w : g < f). omega arith) (λ (w : f ≤ g). absurd (eqb-false f g q (omega (arith, ltb-false f g p)))) (lt_or_ge g f)

pub correct_on : (stage : Stage) (tb : Table) (f t : ℕ) → tb.tests ≤ 24 → Fits stage tb → eqb (rank_of stage) 3 ≡ false → not_after stage f t ≡ false → Correct tb (order_of f t)
correct_on Tests tb f t h g u e = λ i k a b c. absurd (omega arith)
correct_on Faults tb f t h g u e = λ i k a b c. g.1 i k a b (omega arith)
correct_on (Responses d m) tb f t h g u e = λ i k a b c. g.3 i k a b (omega (arith, later f t d m (omega (arith, g.0)) e))
correct_on Ended tb f t h g u e = absurd (eqb-false 3 3 u refl)

-- ---- a table has one stage before the end

pub one_stage : (s z : Stage) (tb : Table) → tb.tests ≤ 24 → rank_of s ≤ 2 → rank_of z ≤ 2 → Fits s tb → Fits z tb → s ≡ z
one_stage Tests Tests tb h a b g k = refl
one_stage Tests Faults tb h a b g k = absurd (omega (arith, k.0))
one_stage Tests (Responses f n) tb h a b g k = absurd (omega (arith, k.1))
one_stage Faults Tests tb h a b g k = absurd (omega (arith, g.0))
one_stage Faults Faults tb h a b g k = refl
one_stage Faults (Responses f n) tb h a b g k = absurd (k.2 (g.1 n f k.0 k.1 (omega arith)))
one_stage (Responses f n) Tests tb h a b g k = absurd (omega (arith, g.1))
one_stage (Responses f n) Faults tb h a b g k = absurd (g.2 (k.1 n f g.0 g.1 (omega arith)))
one_stage (Responses f n) (Responses d m) tb h a b g k =
    ⊎_elim (λ (l : order_of f n < order_of d m). absurd (k.2 (g.3 m d k.0 k.1 (omega arith))))
    (λ (l : order_of d m ≤ order_of f n).
    ⊎_elim (λ (y : order_of d m < order_of f n). absurd (g.2 (k.3 n f g.0 g.1 (omega arith))))
    (λ (y : order_of f n ≤ order_of d m).
    let p : f ≡ d = omega (arith, g.0, k.0) in
    let q : n ≡ m = omega (arith, g.0, k.0) in
    cc)
    (lt_or_ge (order_of d m) (order_of f n)))
    (lt_or_ge (order_of f n) (order_of d m))
one_stage Tests Ended tb h a b g k = absurd (omega arith)
one_stage Faults Ended tb h a b g k = absurd (omega arith)
one_stage (Responses f n) Ended tb h a b g k = absurd (omega arith)
one_stage Ended z tb h a b g k = absurd (omega arith)
