-- The loop that lists the columns that have p: one is stored a turn. Assumes nothing.
use mathlib.Core.Bool.{Bool, true}
use mathlib.Core.List.{List}
use mathlib.Core.Path.{◌≡◌, refl, ap, ◌∙◌}
use Prim.Native.Nat.{ℕ, ◌+◌, ◌<◌}
use native.Mathlib.Omega.{arith}
use lib.ListN.{length, set}
use Rattle.folds.specs.Fold.{count, gather, onto}
use Rattle.folds.proofs.Count.{count_le}
use Rattle.folds.proofs.Gather.{gather_length, gather_store}
use Rattle.folds.proofs.Onto.{onto_length}
use Rattle.table.specs.Table.{output_at, columns}
use Rattle.table.specs.declared.Table.{Table}
use Rattle.suspects.specs.Suspects.{unlisted, itself, suspect, found_under}

length_unlisted : length unlisted ≡ 61
unfolding unlisted
length_unlisted = refl

-- the next one is stored behind those before it
pub list_put : (p : ℕ → Bool) (i j : ℕ) (r : Bool) (b b' : List ℕ) → b ≡ onto (gather p itself i) unlisted → j ≡ count p i → i < 61
    → r ≡ p i → r ≡ true → b' ≡ set b j i → b' ≡ onto (gather p itself (i + 1)) unlisted
list_put p i j r b b' e f w q h t =
    let l : length b ≡ length unlisted = ap length e ∙ onto_length (gather p itself i) unlisted (omega (arith, count_le p i, gather_length p itself i, length_unlisted)) in
    gather_store p itself i j i r unlisted b b' e f (omega (arith, count_le p i, length_unlisted)) l q h refl t

-- those found and their count, behind the last column
pub found_end : (tb : Table) (s : ℕ) (seen : List ℕ) (i k m : ℕ) (b : List ℕ) → k ≡ count (suspect (output_at tb) tb.tests s seen) i
    → b ≡ onto (gather (suspect (output_at tb) tb.tests s seen) itself i) unlisted → i ≡ columns tb → m ≡ k
    → record { count = m; columns = b } ≡ found_under (output_at tb) tb.tests s seen (columns tb)
unfolding found_under
found_end tb s seen i k m b f g e q = rw (← e, q, f, g) refl
