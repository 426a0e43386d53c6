-- Laws of the tests weighed by masks. Assumes nothing.
use mathlib.Core.Bool.{true}
use mathlib.Core.List.{List}
use mathlib.Core.Path.{◌≡◌}
use Prim.Native.Nat.{ℕ, ◌<◌}
use borrow.Author.Tests.{ltb-true, lt-ltb}
use lib.Dec.{ltb}
use Rattle.folds.proofs.Bools.{both_true, both_left, both_right}
use Rattle.folds.proofs.Some.{some_of, some_at}
use Rattle.cover.specs.Kept.{covers, outdone_by, outdone}

-- ---- what it means that some test outdoes test t

module _ (masks : List ℕ) (t : ℕ) where
  pub outdone_by_lem : (u tests : ℕ) → u < tests → u < t → covers masks u t ≡ true → outdone masks tests t ≡ true
  unfolding outdone outdone_by
  outdone_by_lem u tests l m h = some_of (outdone_by masks t) tests u l (both_true _ _ (lt-ltb u t m) h)

  pub outdone_at : (tests : ℕ) → outdone masks tests t ≡ true → (u : ℕ) × (u < tests) × (u < t) × (covers masks u t ≡ true)
  unfolding outdone outdone_by
  outdone_at tests h =
      let w = some_at (outdone_by masks t) tests h in
      (w.0, w.1, ltb-true w.0 t (both_left _ _ w.2), both_right (ltb w.0 t) _ w.2)
