-- The test of a table holds of the well-formed tables and of no others. Assumes nothing.
use mathlib.Core.Bool.{Bool, true, false}
use mathlib.Core.List.{List}
use mathlib.Core.Logic.{◌⊎◌, inl, inr, ⊎_elim}
use mathlib.Core.Path.{◌≡◌, refl, sym, ◌∙◌}
use Prim.Native.Nat.{ℕ, ◌+◌, ◌≤◌, ◌<◌}
use native.Mathlib.Omega.{arith}
use borrow.Author.Tests.{leb-true, leb-false, ltb-false, eqb-true, le-leb, lt-leb, lt-ltb, le-ltb, eq-eqb}
use lib.Dec.{eqb, leb, ltb}
use lib.ListN.{get_or}
use Rattle.folds.specs.Fold.{both, either, every}
use Rattle.folds.proofs.Bools.{clash, both_true, both_left, both_right, both_false, both_no, no_both, either_second, tells_by}
use Rattle.folds.proofs.Below.{lt_or_ge}
use Rattle.folds.proofs.Every.{every_at, every_of}
use Rattle.table.specs.declared.Table.{Table}
use Rattle.table.specs.Table.{cell_at, output_at}
use Rattle.table.specs.WellFormed.{WellFormed}
use Rattle.table.specs.Test.{differ, fresh, label_right, cell_right, row_right, well_formed, Tested}

-- ---- a table that passes is well formed

module _ (lines stuck : List ℕ) (faults f : ℕ) where
  used_label : f < faults → label_right lines stuck faults f ≡ true → (get_or stuck f 0 ≤ 1) × (fresh lines stuck f ≡ true)
  unfolding label_right
  used_label l h =
      let k : both (leb (get_or stuck f 0) 1) (fresh lines stuck f) ≡ true = rw (lt-ltb f faults l) at h in
      (leb-true _ _ (both_left _ _ k), both_right (leb (get_or stuck f 0) 1) _ k)

  unused_label : faults ≤ f → label_right lines stuck faults f ≡ true → (get_or lines f 0 ≡ 0) × (get_or stuck f 0 ≡ 0)
  unfolding label_right
  unused_label l h =
      let k : both (eqb (get_or lines f 0) 0) (eqb (get_or stuck f 0) 0) ≡ true = rw (le-ltb f faults l) at h in
      (eqb-true _ _ (both_left _ _ k), eqb-true _ _ (both_right (eqb (get_or lines f 0) 0) _ k))

fresh_differs : (lines stuck : List ℕ) (f g : ℕ) → fresh lines stuck f ≡ true → g < f → get_or lines f 0 ≡ get_or lines g 0 → get_or stuck f 0 ≡ get_or stuck g 0 → ⊥
unfolding fresh differ
fresh_differs lines stuck f g h l p q = both_no _ _ (every_at (differ lines stuck f) f g h l) (eq-eqb _ _ p) (eq-eqb _ _ q)

unused : (tests faults t c : ℕ) → (tests ≤ t) ⊎ (faults + 1 ≤ c) → both (ltb t tests) (leb c faults) ≡ false
unused tests faults t c (inl l) = rw (le-ltb t tests l)
unused tests faults t c (inr l) = rw (lt-leb c faults (omega arith)) (both_false (ltb t tests))

unused_cell : (cells : List ℕ) (tests faults t c : ℕ) → row_right cells tests faults t ≡ true → c < 61 → (tests ≤ t) ⊎ (faults + 1 ≤ c) → cell_at cells t c ≡ 0
unfolding row_right cell_right
unused_cell cells tests faults t c h l u =
    eqb-true _ _ (either_second _ _ (every_at (cell_right cells tests faults t) 61 c h l) (unused tests faults t c u))

pub formed : (tb : Table) → well_formed tb ≡ true → WellFormed tb
unfolding well_formed
formed tb h =
    let a = both_right (leb tb.tests 24) _ h in
    let b = both_right (leb tb.faults 60) _ a in
    let faults : tb.faults ≤ 60 = leb-true _ _ (both_left _ _ a) in
    let label : (f : ℕ) → f < 60 → label_right tb.lines tb.stuck tb.faults f ≡ true = λ f l. every_at (label_right tb.lines tb.stuck tb.faults) 60 f (both_left _ _ b) l in
    record {
      tests_fit = leb-true _ _ (both_left _ _ h);
      faults_fit = faults;
      stuck_fit = λ f l. (used_label tb.lines tb.stuck tb.faults f l (label f (omega arith))).0;
      distinct = λ f g l m p q. fresh_differs tb.lines tb.stuck f g (used_label tb.lines tb.stuck tb.faults f m (label f (omega arith))).1 l p q;
      cells_clear = λ t c l m u. unused_cell tb.cells tb.tests tb.faults t c (every_at (row_right tb.cells tb.tests tb.faults) 24 t (both_right (every (label_right tb.lines tb.stuck tb.faults) 60) _ b) l) m u;
      labels_clear = λ f l m. unused_label tb.lines tb.stuck tb.faults f l (label f m);
    }

-- ---- a well-formed table passes

module _ (tb : Table) (w : WellFormed tb) where
  differs : (f : ℕ) → f < tb.faults → (g : ℕ) → g < f → differ tb.lines tb.stuck f g ≡ true
  unfolding differ
  differs f m g l = no_both _ _ (λ p q. w.distinct f g l m (eqb-true _ _ p) (eqb-true _ _ q))

  right_label : (f : ℕ) → f < 60 → label_right tb.lines tb.stuck tb.faults f ≡ true
  unfolding label_right fresh
  right_label f l = ⊎_elim
      (λ m. rw (lt-ltb f tb.faults m) (both_true _ _ (le-leb _ _ (w.stuck_fit f m)) (every_of (differ tb.lines tb.stuck f) f (differs f m))))
      (λ m. let z = w.labels_clear f m l in rw (le-ltb f tb.faults m) (both_true _ _ (eq-eqb _ _ z.0) (eq-eqb _ _ z.1)))
      (lt_or_ge f tb.faults)

  right_cell : (t : ℕ) → t < 24 → (c : ℕ) → c < 61 → cell_right tb.cells tb.tests tb.faults t c ≡ true
  unfolding cell_right
  right_cell t m c l = go (ltb t tb.tests) (leb c tb.faults) refl refl
    where
      go : (a b : Bool) → ltb t tb.tests ≡ a → leb c tb.faults ≡ b → either (both a b) (eqb (output_at tb t c) 0) ≡ true
      go true true p q = refl
      go true false p q = eq-eqb _ _ (w.cells_clear t c m l (inr (omega (arith, leb-false c tb.faults q))))
      go false b p q = eq-eqb _ _ (w.cells_clear t c m l (inl (ltb-false _ _ p)))

  pub tested : well_formed tb ≡ true
  unfolding well_formed row_right
  tested =
      both_true _ _ (le-leb _ _ w.tests_fit)
      (both_true _ _ (le-leb _ _ w.faults_fit)
      (both_true _ _ (every_of (label_right tb.lines tb.stuck tb.faults) 60 right_label)
      (every_of (row_right tb.cells tb.tests tb.faults) 24 (λ t m. every_of (cell_right tb.cells tb.tests tb.faults t) 61 (right_cell t m)))))

pub tested_by : (tb : Table) (r : Bool) → r ≡ well_formed tb → Tested tb r
tested_by tb r e = record {
  says = tells_by r (λ h. formed tb (sym e ∙ h)) (λ h w. clash r (e ∙ tested tb w) h);
  is = e;
}
