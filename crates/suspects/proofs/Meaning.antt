-- What the list holds: exactly the columns whose signature equals the observed outputs, in rising order. Assumes nothing.
use mathlib.Core.Bool.{Bool, true, false}
use mathlib.Core.List.{List, []}
use mathlib.Core.Logic.{⊎_elim}
use mathlib.Core.Path.{◌≡◌, sym, ap, ◌∙◌}
use Prim.Native.Nat.{ℕ, zero, suc, ◌<◌}
use native.Mathlib.Numerals.{add-one}
use native.Mathlib.Omega.{arith}
use borrow.Author.Tests.{eq-eqb}
use lib.Dec.{eqb}
use lib.ListN.{length, get_or, take}
use Rattle.std.specs.Prelude.{Result, Ok}
use Rattle.folds.specs.Fold.{pick, count, gather, single, onto}
use Rattle.folds.proofs.Below.{lt_or_ge}
use Rattle.folds.proofs.Count.{count_less, count_mono, count_reaches}
use Rattle.folds.proofs.Gather.{gather_length, gather_get}
use Rattle.folds.proofs.Joined.{joined_none, joined_no}
use Rattle.folds.proofs.Onto.{onto_front}
use Rattle.folds.proofs.Bools.{pick_ap}
use Rattle.sets.specs.Sets.{has, within}
use Rattle.sets.proofs.Bits.{bit_zero, has_no, within_of}
use Rattle.table.specs.Answers.{answer_number}
use Rattle.table.specs.Table.{output_at, columns}
use Rattle.table.specs.Test.{well_formed}
use Rattle.table.specs.declared.Refusal.{Refusal}
use Rattle.table.specs.declared.Suspects.{Suspects}
use Rattle.table.specs.declared.Table.{Table}
use Rattle.terms.specs.Columns.{output_of}
use Rattle.terms.specs.Terms.{signature}
use Rattle.suspects.specs.Suspects.{unlisted, itself, suspect, found_under, suspects_of, answer_suspects, answer_list}
use Rattle.suspects.proofs.Answers.{suspect_same, same_suspect}

-- ---- the list of the numbers that have p

module _ (p : ℕ → Bool) (n : ℕ) where
  -- each of them stands at its own place,
  at_place : (c : ℕ) → c < n → p c ≡ true → get_or (gather p itself n) (count p c) 0 ≡ c
  at_place c w h =
      gather_get p itself n c w h

  -- and at each place below their count stands one of them
  one_there : (i : ℕ) → i < count p n → (c : ℕ) × (c < n) × (p c ≡ true) × (count p c ≡ i) × (get_or (gather p itself n) i 0 ≡ c)
  one_there i w = let x = count_reaches p n i w in (x.0, x.1, x.2, x.3, ap (λ (k : ℕ). get_or (gather p itself n) k 0) (sym x.3) ∙ at_place x.0 x.1 x.2)

  rises : (i j : ℕ) → i < j → j < count p n → get_or (gather p itself n) i 0 < get_or (gather p itself n) j 0
  rises i j l w = go (one_there i (omega arith)) (one_there j w)
    where
      go : (c : ℕ) × (c < n) × (p c ≡ true) × (count p c ≡ i) × (get_or (gather p itself n) i 0 ≡ c)
          → (d : ℕ) × (d < n) × (p d ≡ true) × (count p d ≡ j) × (get_or (gather p itself n) j 0 ≡ d)
          → get_or (gather p itself n) i 0 < get_or (gather p itself n) j 0
      go (c, _, _, ec, gc) (d, _, _, ed, gd) = rw (gc, gd) (⊎_elim (λ k. k) (λ k. absurd (omega (arith, count_mono p d c k))) (lt_or_ge c d))

  -- they are the front of what is laid over the zeros
  front : take (count p n) (onto (gather p itself n) unlisted) ≡ gather p itself n
  front = rw (← gather_length p itself n) (onto_front (gather p itself n) unlisted)

-- ---- the paper's number

pub suspects_number : (tb : Table) (s : ℕ) (seen : List ℕ) (a : Result Suspects Refusal) → a ≡ suspects_of tb s seen
    → answer_number a ≡ pick (well_formed tb) (pick (within s tb.tests) (pick (eqb (length seen) (count (has s) tb.tests)) 0 25) 21) 20
unfolding suspects_of
suspects_number tb s seen a e =
    let number : Result Suspects Refusal → ℕ = answer_number in
    rw e (pick_ap number (well_formed tb) _ _
    ∙ ap (λ (m : ℕ). pick (well_formed tb) m 20) (pick_ap number (within s tb.tests) _ _
    ∙ ap (λ (m : ℕ). pick (within s tb.tests) m 21) (pick_ap number (eqb (length seen) (count (has s) tb.tests)) _ _)))

-- ---- an accepted call

module _ (tb : Table) (s : ℕ) (seen : List ℕ) (formed : well_formed tb ≡ true) (known : within s tb.tests ≡ true) (each : length seen ≡ count (has s) tb.tests) where
  answer_found : suspects_of tb s seen ≡ Ok (found_under (output_at tb) tb.tests s seen (columns tb))
  unfolding suspects_of
  answer_found = rw (formed, known, eq-eqb _ _ each)

  module _ (a : Result Suspects Refusal) (e : a ≡ suspects_of tb s seen) where
    pub counted : (answer_suspects a).count ≡ count (suspect (output_at tb) tb.tests s seen) (columns tb)
    unfolding found_under
    counted = rw (e, answer_found)

    columns_are : answer_list a ≡ gather (suspect (output_at tb) tb.tests s seen) itself (columns tb)
    unfolding found_under
    columns_are = rw (e, answer_found) (front (suspect (output_at tb) tb.tests s seen) (columns tb))

    -- the list is as long as the count
    pub list_counted : length (answer_list a) ≡ count (suspect (output_at tb) tb.tests s seen) (columns tb)
    list_counted = rw columns_are (gather_length (suspect (output_at tb) tb.tests s seen) itself (columns tb))

    -- what is listed is a column whose signature equals the outputs,
    pub listed_suspect : (i : ℕ) → i < length (answer_list a) → (get_or (answer_list a) i 0 < columns tb) × (signature tb s (get_or (answer_list a) i 0) ≡ seen)
    listed_suspect i w =
        let x = one_there (suspect (output_at tb) tb.tests s seen) (columns tb) i (rw (← list_counted) w) in
        rw (columns_are, x.4) (x.1, suspect_same (output_at tb) tb.tests s seen x.0 x.2)

    -- and every such column is listed
    pub suspect_listed : (c : ℕ) → c < columns tb → signature tb s c ≡ seen → (i : ℕ) × (i < length (answer_list a)) × (get_or (answer_list a) i 0 ≡ c)
    suspect_listed c w h =
        let p : suspect (output_at tb) tb.tests s seen c ≡ true = same_suspect (output_at tb) tb.tests s seen c h in (
          count (suspect (output_at tb) tb.tests s seen) c,
          rw list_counted (omega (arith, count_less (suspect (output_at tb) tb.tests s seen) c (columns tb) w p)),
          rw columns_are (at_place (suspect (output_at tb) tb.tests s seen) (columns tb) c w p),
        )

    -- the list rises strictly
    pub list_rises : (i j : ℕ) → i < j → j < length (answer_list a) → get_or (answer_list a) i 0 < get_or (answer_list a) j 0
    list_rises i j l w = rw columns_are (rises (suspect (output_at tb) tb.tests s seen) (columns tb) i j l (rw (← list_counted) w))

-- ---- "The empty set with no outputs gives every column."

no_test : (t : ℕ) → has 0 t ≡ false
no_test t = has_no 0 t (bit_zero t)

no_outputs : (f : ℕ → ℕ) (n : ℕ) → gather (has 0) f n ≡ []
no_outputs f zero = joined_none (has 0) (single f)
no_outputs f (suc n) = rw (← add-one n) (joined_no (has 0) (single f) n (no_test n) ∙ no_outputs f n)

pub empty_set : (tb : Table) → well_formed tb ≡ true → (a : Result Suspects Refusal) → a ≡ suspects_of tb 0 [] → (c : ℕ) → c < columns tb → (i : ℕ) × (i < length (answer_list a)) × (get_or (answer_list a) i 0 ≡ c)
empty_set tb formed a e c w =
    suspect_listed tb 0 [] formed (within_of 0 tb.tests (λ t b. absurd (omega (arith, bit_zero t))))
    (ap length (sym (no_outputs itself tb.tests)) ∙ gather_length (has 0) itself tb.tests) a e c w (no_outputs (output_of (output_at tb) c) tb.tests)
