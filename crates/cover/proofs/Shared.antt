-- Laws of the tests that masks share. Assumes nothing.
use mathlib.Core.Bool.{Bool, true, false, not}
use mathlib.Core.List.{List}
use mathlib.Core.Logic.{⊎_elim}
use mathlib.Core.Path.{◌≡◌, refl, sym, ap, ◌∙◌}
use Prim.Native.Nat.{ℕ, zero, suc, ◌+◌, ◌-◌, ◌*◌, ◌%◌, ◌^◌, ◌≤◌, ◌<◌}
use native.Mathlib.Nat.{le_refl, mod-lt}
use native.Mathlib.Numerals.{add-one}
use native.Mathlib.Omega.{arith}
use borrow.Author.Tests.{eq-eqb, ne_eqb}
use lib.Bits.{bit_and, and_le_l, and_mask}
use lib.Dec.{eqb}
use lib.ListN.{length, get_or, take}
use lib.Seq.{take-suc, take-length}
use lib.Pow.{pow_pos}
use denote.Param.Members.{Mut}
use denote.Ref.{Bor}
use Rattle.std.specs.Prelude.{cond}
use Rattle.std.specs.List.{fold}
use Rattle.std.specs.Iterator.{ActsAsOnTwo}
use Rattle.std.specs.Iterator.Runs.{WholeRun}
use Rattle.std.specs.Slice.Iter.{iter_rest, iter_steps}
use Rattle.std.specs.declared.slice.Iter.{Iter}
use Rattle.std.proofs.iter.runs.Sources.{iter_runs}
use Rattle.std.proofs.lemmas.Grind.{fold-append}
use Rattle.folds.specs.Fold.{both, every}
use Rattle.folds.proofs.Below.{eq_or_ne}
use Rattle.folds.proofs.Bools.{both_yes}
use Rattle.sets.specs.Sets.{bit, has}
use Rattle.sets.specs.Collect.{set_of, with_test}
use Rattle.sets.proofs.Bits.{bit_low, bit_zero, bit_below, some_bit}
use Rattle.sets.proofs.Collect.{one_shl, set_is, set_lt, set_tells, set_has, set_in}
use Rattle.sets.proofs.Shared.{has_and}
use Rattle.cover.specs.Kept.{follows_at, follows, covers, outdone}
use Rattle.cover.proofs.Kept.{outdone_by_lem, outdone_at}

-- ---- the loop over the masks that test t is in

module _ (masks : List ℕ) (t : ℕ) where
  -- the tests that are in those of the first i
  shared_to : ℕ → ℕ
  shared_to i = set_of (λ u. every (follows_at masks u t) i) 24

  shared_start : 16777215 ≡ shared_to 0
  unfolding shared_to set_of with_test every
  shared_start = refl

  module _ (i s s' : ℕ) (r : Bool) (e : s ≡ shared_to i) (h : r ≡ has (get_or masks i 0) t) where
    shared_next : s' ≤ s → ((u : ℕ) → has s' u ≡ both (has s u) (follows u t (get_or masks i 0))) → s' ≡ shared_to (i + 1)
    unfolding shared_to every follows_at
    shared_next l k =
        let p : ℕ → Bool = λ u. every (follows_at masks u t) i in
        set_is _ 24 s' (omega (arith, e, set_lt p 24)) (λ u m. k u ∙ rw (e, add-one, set_tells p 24 u m))

    shared_in : r ≡ true → s' ≡ bit_and s (get_or masks i 0) → s' ≡ shared_to (i + 1)
    unfolding follows
    shared_in q g = shared_next (rw g (and_le_l _ _)) (λ u. rw (g, ← h, q) (has_and s (get_or masks i 0) u))

    shared_on : r ≡ false → s' ≡ s → s' ≡ shared_to (i + 1)
    unfolding follows
    shared_on q g = shared_next (omega arith) (λ u. rw (g, ← h, q) (both_yes (has s u)))

  -- the step at a mask
  step : ℕ → ℕ → ℕ
  step s m = cond (has m t) (bit_and s m) s

  shared_fold : (i : ℕ) → i ≤ length masks → fold step 16777215 (take i masks) ≡ shared_to i
  unfolding step
  shared_fold zero l = shared_start
  shared_fold (suc i) l = rw (take-suc masks i 0 (omega arith), fold-append, ← add-one i) (go _ (shared_fold i (omega arith)) (has (get_or masks i 0) t) refl)
    where
      go : (s : ℕ) → s ≡ shared_to i → (b : Bool) → has (get_or masks i 0) t ≡ b → cond b (bit_and s (get_or masks i 0)) s ≡ shared_to (i + 1)
      go s e true q = shared_in i s _ true e (sym q) refl refl
      go s e false q = shared_on i s _ false e (sym q) refl refl

  -- the masks, as the code goes over them
  pub shared_by : {G : Type 0} (k : Mut G (ℕ × (Bor ℕ × Unit {0})) ℕ) (j : G) (a : Iter ℕ) (r : ℕ) → ActsAsOnTwo k j (λ s m. cond (has m.now t) (bit_and s m.now) s) → iter_rest a ≡ masks
      → WholeRun iter_steps a (λ u. (h : ℕ → Bor ℕ → ℕ) → ActsAsOnTwo k j h → r ≡ fold h 16777215 u.items)
      → r ≡ set_of (λ u. covers masks u t) 24
  unfolding shared_to covers step
  shared_by k j a r acts rest (u, e, whole, run) =
      let c = iter_runs u u.seen in
      run (λ s m. cond (has m.now t) (bit_and s m.now) s) acts
      ∙ c.5 step 16777215 whole
      ∙ ap (fold step 16777215) (ap iter_rest e ∙ rest ∙ sym (take-length masks))
      ∙ shared_fold (length masks) (le_refl _)

-- ---- the lower tests among them, as the code asks for them

module _ (t : ℕ) (l : t < 24) where
  pub lower_room : 1 ≤ 1 * 2 ^ t % 2 ^ 32
  lower_room = rw (one_shl 32 t (omega arith)) (pow_pos t)

  pub lower_is : 1 * 2 ^ t % 2 ^ 32 - 1 ≡ 2 ^ t - 1
  lower_is = rw (one_shl 32 t (omega arith))

module _ (masks : List ℕ) (tests t r : ℕ) (fit : tests ≤ 24) (l : t < tests) (e : r ≡ set_of (λ u. covers masks u t) 24) where
  lower_found : (u : ℕ) → bit (r % 2 ^ t) u ≡ 1 → outdone masks tests t ≡ true
  lower_found u b =
      let m = bit_below t (r % 2 ^ t) u (mod-lt r (pow_pos t)) b in
      outdone_by_lem masks t u tests (omega arith) m (set_has (λ v. covers masks v t) 24 u (rw (← e) (sym (bit_low r t u m) ∙ b)))

  lower_there : outdone masks tests t ≡ true → r % 2 ^ t ≡ 0 → ⊥
  lower_there h z =
      let w = outdone_at masks t tests h in
      let b : bit r w.0 ≡ 1 = rw e (set_in (λ v. covers masks v t) 24 w.0 (omega (arith, w.1)) w.3) in
      omega (arith, bit_low r t w.0 w.2, ap (λ (x : ℕ). bit x w.0) z, bit_zero w.0)

  pub lower_tells : (m : ℕ) → m ≡ 2 ^ t - 1 → not (eqb (bit_and r m) 0) ≡ outdone masks tests t
  lower_tells m em = rw (em, and_mask r t) (⊎_elim
      (λ z. rw (eq-eqb (r % 2 ^ t) 0 z) (go z (outdone masks tests t) refl))
      (λ z. let b = some_bit (r % 2 ^ t) z in rw (ne_eqb (r % 2 ^ t) 0 z, lower_found b.0 b.1))
      (eq_or_ne (r % 2 ^ t) 0))
    where
      go : r % 2 ^ t ≡ 0 → (b : Bool) → outdone masks tests t ≡ b → false ≡ b
      go z true h = absurd (lower_there h z)
      go z false h = refl
