-- Every table that the records build from the empty one is well formed. Assumes nothing.
use mathlib.Core.Bool.{true}
use mathlib.Core.List.{List}
use mathlib.Core.Logic.{◌⊎◌, inl, inr, ⊎_elim}
use mathlib.Core.Path.{◌≡◌, refl, sym, ◌∙◌}
use Prim.Native.Nat.{ℕ, zero, suc, ◌+◌, ◌≤◌, ◌<◌}
use native.Mathlib.Omega.{arith}
use borrow.Author.Tests.{eq-eqb, eqb-true}
use lib.ListN.{length, get_or, set, length-set}
use lib.Seq.{get_or-set_same, get_or-set_other}
use Rattle.folds.specs.Fold.{every}
use Rattle.folds.proofs.Below.{below_cases}
use Rattle.folds.proofs.Bools.{both_no, no_both}
use Rattle.folds.proofs.Every.{every_at, every_of}
use Rattle.table.specs.Table.{place_of, cell_at}
use Rattle.table.specs.WellFormed.{WellFormed, OfType}
use Rattle.table.specs.declared.Table.{Table}
use Rattle.table.proofs.Stored.{cell_here, cell_there, stored, stored_byte, cell_byte}
use Rattle.grow.specs.Grow.{with_test, filled, with_fault, with_response, differs}

-- the arrays' lengths
pub record Long (tb : Table) : Type 0 where
  pub cells : length tb.cells ≡ 1464
  pub lines : length tb.lines ≡ 60
  pub stuck : length tb.stuck ≡ 60

pub long_of : {tb : Table} → OfType tb → Long tb
long_of o = record { cells = o.cells_long; lines = o.lines_long; stuck = o.stuck_long }

-- ---- a column filled with the correct outputs

pub filled_length : (cells : List ℕ) (c n : ℕ) → length (filled cells c n) ≡ length cells
unfolding filled
filled_length cells c zero = refl
filled_length cells c (suc n) = simp length-set (filled_length cells c n)

-- the cells outside it stay
pub filled_there : (cells : List ℕ) (c n t d : ℕ) → c < 61 → n ≤ 24 → t < 24 → d < 61 → (n ≤ t) ⊎ (d ≡ c → ⊥) → cell_at (filled cells c n) t d ≡ cell_at cells t d
unfolding filled
filled_there cells c zero t d hc hn ht hd u = refl
filled_there cells c (suc n) t d hc hn ht hd u =
    cell_there (filled cells c n) n c _ t d (omega arith) hc ht hd (λ e f. ⊎_elim (λ (w : suc n ≤ t). omega arith) (λ (ne : d ≡ c → ⊥). ne f) u)
    ∙ filled_there cells c n t d hc (omega arith) ht hd (⊎_elim (λ (w : suc n ≤ t). inl (omega arith)) (λ (ne : d ≡ c → ⊥). inr ne) u)

-- those within it are the correct outputs
pub filled_here : (cells : List ℕ) (c n t : ℕ) → length cells ≡ 1464 → c < 61 → n ≤ 24 → t < n → cell_at (filled cells c n) t c ≡ cell_at cells t 0
unfolding filled
filled_here cells c zero t l hc hn ht = absurd (omega arith)
filled_here cells c (suc n) t l hc hn ht =
    ⊎_elim
    (λ (w : t < n).
    cell_there (filled cells c n) n c _ t c (omega arith) hc (omega arith) hc (λ e f. omega arith)
    ∙ filled_here cells c n t l hc (omega arith) w)
    (λ (e : t ≡ n). rw e (cell_here (filled cells c n) n c _ (filled_length cells c n ∙ l) (omega arith) hc))
    (below_cases t n ht)

filled_byte : (cells : List ℕ) (c n : ℕ) → ((k : ℕ) → get_or cells k 0 < 256) → (k : ℕ) → get_or (filled cells c n) k 0 < 256
unfolding filled
filled_byte cells c zero b k = b k
filled_byte cells c (suc n) b k = stored_byte (filled cells c n) (place_of n c) _ (cell_byte cells b n 0) (filled_byte cells c n b) k

-- ---- a label that no fault has so far

module _ (lines stuck : List ℕ) (l v n : ℕ) where
  pub new_label : every (differs lines stuck l v) n ≡ true → (f : ℕ) → f < n → get_or lines f 0 ≡ l → get_or stuck f 0 ≡ v → ⊥
  unfolding differs
  new_label h f w p q = both_no _ _ (every_at (differs lines stuck l v) n f h w) (eq-eqb _ _ p) (eq-eqb _ _ q)

  pub label_new : ((f : ℕ) → f < n → get_or lines f 0 ≡ l → get_or stuck f 0 ≡ v → ⊥) → every (differs lines stuck l v) n ≡ true
  unfolding differs
  label_new h = every_of (differs lines stuck l v) n (λ f w. no_both _ _ (λ p q. h f w (eqb-true _ _ p) (eqb-true _ _ q)))

-- ---- well formed

module _ (tb : Table) (w : WellFormed tb) where
  pub test_formed : (x : ℕ) → tb.tests < 24 → WellFormed (with_test tb x)
  test_formed x h = record {
    tests_fit = omega arith;
    faults_fit = w.faults_fit;
    stuck_fit = w.stuck_fit;
    distinct = w.distinct;
    cells_clear = λ t c m k u.
        cell_there tb.cells tb.tests 0 x t c h (omega arith) m k
        (λ e f. ⊎_elim (λ (v : tb.tests + 1 ≤ t). omega arith) (λ (v : tb.faults + 1 ≤ c). omega arith) u)
        ∙ w.cells_clear t c m k (⊎_elim (λ (v : tb.tests + 1 ≤ t). inl (omega arith)) (λ v. inr v) u);
    labels_clear = w.labels_clear;
  }

  pub response_formed : (t f x : ℕ) → t < tb.tests → f < tb.faults → WellFormed (with_response tb t f x)
  response_formed t f x h l = record {
    tests_fit = w.tests_fit;
    faults_fit = w.faults_fit;
    stuck_fit = w.stuck_fit;
    distinct = w.distinct;
    cells_clear = λ u c m k v.
        cell_there tb.cells t (f + 1) x u c (omega (arith, w.tests_fit)) (omega (arith, w.faults_fit)) m k
        (λ e g. ⊎_elim (λ (q : tb.tests ≤ u). omega arith) (λ (q : tb.faults + 1 ≤ c). omega arith) v)
        ∙ w.cells_clear u c m k v;
    labels_clear = w.labels_clear;
  }

  module _ (long : Long tb) (l v : ℕ) (h : tb.faults < 60) where
    label_one : (f g : ℕ) → g < f → f < tb.faults + 1 → every (differs tb.lines tb.stuck l v) tb.faults ≡ true
        → get_or (set tb.lines tb.faults l) f 0 ≡ get_or (set tb.lines tb.faults l) g 0
        → get_or (set tb.stuck tb.faults v) f 0 ≡ get_or (set tb.stuck tb.faults v) g 0 → ⊥
    label_one f g k m e p q =
        let gl = get_or-set_other tb.lines tb.faults g l 0 (λ x. omega arith) in
        let gs = get_or-set_other tb.stuck tb.faults g v 0 (λ x. omega arith) in
        ⊎_elim
        (λ (x : f < tb.faults).
        let fl = get_or-set_other tb.lines tb.faults f l 0 (λ y. omega arith) in
        let fs = get_or-set_other tb.stuck tb.faults f v 0 (λ y. omega arith) in
        w.distinct f g k x (sym fl ∙ p ∙ gl) (sym fs ∙ q ∙ gs))
        (λ (x : f ≡ tb.faults).
        let fl : get_or (set tb.lines tb.faults l) f 0 ≡ l = rw x (get_or-set_same tb.lines tb.faults l 0 (omega (arith, long.lines))) in
        let fs : get_or (set tb.stuck tb.faults v) f 0 ≡ v = rw x (get_or-set_same tb.stuck tb.faults v 0 (omega (arith, long.stuck))) in
        new_label tb.lines tb.stuck l v tb.faults e g (omega arith) (sym gl ∙ sym p ∙ fl) (sym gs ∙ sym q ∙ fs))
        (below_cases f tb.faults (omega arith))

    pub fault_formed : v ≤ 1 → every (differs tb.lines tb.stuck l v) tb.faults ≡ true → WellFormed (with_fault tb l v)
    fault_formed hv e = record {
      tests_fit = w.tests_fit;
      faults_fit = omega arith;
      stuck_fit = λ f m. stored (λ x. x ≤ 1) tb.stuck tb.faults v f (omega (arith, long.stuck)) (λ _. hv)
          (λ ne. ⊎_elim (λ (x : f < tb.faults). w.stuck_fit f x) (λ (x : f ≡ tb.faults). absurd (ne x)) (below_cases f tb.faults (omega arith)));
      distinct = λ f g k m p q. label_one f g k m e p q;
      cells_clear = λ t c m k u.
          filled_there tb.cells (tb.faults + 1) tb.tests t c (omega arith) w.tests_fit m k
          (⊎_elim (λ (x : tb.tests ≤ t). inl x) (λ (x : tb.faults + 1 + 1 ≤ c). inr (λ y. omega arith)) u)
          ∙ w.cells_clear t c m k (⊎_elim (λ (x : tb.tests ≤ t). inl x) (λ (x : tb.faults + 1 + 1 ≤ c). inr (omega arith)) u);
      labels_clear = λ f m k.
          let z = w.labels_clear f (omega arith) k in
          (get_or-set_other tb.lines tb.faults f l 0 (λ x. omega arith) ∙ z.0, get_or-set_other tb.stuck tb.faults f v 0 (λ x. omega arith) ∙ z.1);
    }

-- ---- of the type

module _ {tb : Table} where
  pub test_long : (x : ℕ) → Long tb → Long (with_test tb x)
  test_long x o = record { cells = simp length-set o.cells; lines = o.lines; stuck = o.stuck }

  pub fault_long : (l v : ℕ) → Long tb → Long (with_fault tb l v)
  fault_long l v o = record { cells = filled_length tb.cells (tb.faults + 1) tb.tests ∙ o.cells; lines = simp length-set o.lines; stuck = simp length-set o.stuck }

  pub response_long : (t f x : ℕ) → Long tb → Long (with_response tb t f x)
  response_long t f x o = record { cells = simp length-set o.cells; lines = o.lines; stuck = o.stuck }

  pub test_typed : (x : ℕ) → x < 256 → OfType tb → OfType (with_test tb x)
  test_typed x h o =
      let n = test_long x (long_of o) in
      record {
        cells_long = n.cells;
        lines_long = n.lines;
        stuck_long = n.stuck;
        cells_bytes = stored_byte tb.cells (place_of tb.tests 0) x h o.cells_bytes;
        lines_bytes = o.lines_bytes;
        stuck_bytes = o.stuck_bytes;
      }

  pub fault_typed : (l v : ℕ) → l < 256 → v < 256 → OfType tb → OfType (with_fault tb l v)
  fault_typed l v h k o =
      let n = fault_long l v (long_of o) in
      record {
        cells_long = n.cells;
        lines_long = n.lines;
        stuck_long = n.stuck;
        cells_bytes = filled_byte tb.cells (tb.faults + 1) tb.tests o.cells_bytes;
        lines_bytes = stored_byte tb.lines tb.faults l h o.lines_bytes;
        stuck_bytes = stored_byte tb.stuck tb.faults v k o.stuck_bytes;
      }

  pub response_typed : (t f x : ℕ) → x < 256 → OfType tb → OfType (with_response tb t f x)
  response_typed t f x h o =
      let n = response_long t f x (long_of o) in
      record {
        cells_long = n.cells;
        lines_long = n.lines;
        stuck_long = n.stuck;
        cells_bytes = stored_byte tb.cells (place_of t (f + 1)) x h o.cells_bytes;
        lines_bytes = o.lines_bytes;
        stuck_bytes = o.stuck_bytes;
      }
