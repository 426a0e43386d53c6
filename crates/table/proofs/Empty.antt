-- The empty table is well formed. Assumes nothing.
use mathlib.Core.Logic.{⊎_elim}
use mathlib.Core.Path.{◌≡◌}
use Prim.Native.Nat.{ℕ}
use native.Mathlib.Omega.{arith}
use lib.Dec.{lit≤}
use lib.ListN.{get_or, replicate, length-replicate, get_or-replicate, get_or-eq_default}
use Rattle.folds.proofs.Below.{lt_or_ge}
use Rattle.table.specs.Table.{place_of, cell_at, empty_table}
use Rattle.table.specs.WellFormed.{WellFormed, OfType}

zeros : (n i : ℕ) → get_or {A = ℕ} (replicate n 0) i 0 ≡ 0
zeros n i =
    ⊎_elim (λ h. get_or-replicate n i 0 0 h) (λ h. get_or-eq_default (replicate n 0) 0 (rw length-replicate h)) (lt_or_ge i n)

pub zero_label : (f : ℕ) → get_or {A = ℕ} (replicate 60 0) f 0 ≡ 0
zero_label f = zeros 60 f

pub zero_byte : (i : ℕ) → get_or {A = ℕ} (replicate 1464 0) i 0 ≡ 0
zero_byte i = zeros 1464 i

pub zero_cell : (t c : ℕ) → cell_at (replicate 1464 0) t c ≡ 0
unfolding cell_at
zero_cell t c = zeros 1464 (place_of t c)

pub empty_formed : WellFormed empty_table
unfolding empty_table
empty_formed = record {
  tests_fit = lit≤ tt;
  faults_fit = lit≤ tt;
  stuck_fit = λ f h. absurd (omega arith);
  distinct = λ f g h l p q. omega arith;
  cells_clear = λ t c h l u. zero_cell t c;
  labels_clear = λ f h l. (zero_label f, zero_label f);
}

pub empty_typed : OfType empty_table
unfolding empty_table
empty_typed = record {
  cells_long = length-replicate {A = ℕ} 1464 0;
  lines_long = length-replicate {A = ℕ} 60 0;
  stuck_long = length-replicate {A = ℕ} 60 0;
  cells_bytes = λ i. omega (arith, zero_byte i);
  lines_bytes = λ f. omega (arith, zero_label f);
  stuck_bytes = λ f. omega (arith, zero_label f);
}
