-- Laws of calls that write to a lent buffer: their answers, and that the promise leaves one. Assumes nothing.
use mathlib.Core.Bool.{Bool, true, false}
use mathlib.Core.List.{List, ◌++◌}
use mathlib.Core.Path.{◌≡◌, refl, sym, ap, ◌∙◌}
use Prim.Native.Nat.{ℕ, ◌+◌, ◌≤◌, ◌<◌}
use native.Mathlib.Omega.{arith}
use borrow.Author.Tests.{le-leb, lt-leb, leb-true}
use lib.Dec.{eqb, leb}
use lib.ListN.{length, get_or, take, drop}
use Rattle.std.specs.Prelude.{Result, Ok, Err}
use Rattle.folds.specs.Fold.{pick, onto}
use Rattle.folds.proofs.Onto.{onto_slice, onto_get}
use Rattle.table.specs.Answers.{answer_number}
use Rattle.table.specs.Test.{well_formed}
use Rattle.table.specs.WellFormed.{WellFormed}
use Rattle.table.specs.declared.Refusal.{Refusal}
use Rattle.table.specs.declared.Refusal.TheVariants.{BufferShort}
use Rattle.table.specs.declared.Table.{Table}
use Rattle.lent.specs.declared.given.Given.{Given}
use Rattle.table.proofs.Answers.{answer_one}
use Rattle.table.proofs.Tested.{formed}
use Rattle.lent.specs.Lent.{accept, set_number, room_number, WritesOnto}

-- the promise leaves one answer and one buffer
pub writes_pins : (earlier : ℕ) (answer d : List ℕ) (r₁ r₂ : Result ℕ Refusal) (e₁ e₂ : List ℕ) → WritesOnto earlier answer d r₁ e₁ → WritesOnto earlier answer d r₂ e₂
    → (r₁ ≡ r₂) × (e₁ ≡ e₂)
writes_pins earlier answer d r₁ r₂ e₁ e₂ a b =
    let n : answer_number r₁ ≡ answer_number r₂ = a.number ∙ sym b.number in (
      answer_one r₁ r₂ n (a.count ∙ ap (λ (m : ℕ). accept m (length answer) 0) n ∙ sym b.count),
      a.buffer ∙ ap (λ (m : ℕ). accept m (onto answer d) d) n ∙ sym b.buffer,
    )

-- ---- whether the buffer has room

module _ (answer d : List ℕ) where
  pub room_enough : length answer ≤ length d → room_number 0 answer d ≡ 0
  unfolding room_number
  room_enough h = rw (le-leb (length answer) (length d) h)

  pub room_short : length d < length answer → room_number 0 answer d ≡ 24
  unfolding room_number
  room_short h = rw (lt-leb (length answer) (length d) h)

  -- the returns of a call that nothing refuses earlier
  pub laid_short : length d < length answer → WritesOnto 0 answer d (Err BufferShort) d
  laid_short h = record { number = sym (room_short h); count = refl; buffer = refl }

  pub laid_all : (row : List ℕ) → row ≡ answer → length answer ≤ length d → WritesOnto 0 answer d (Ok (length answer)) (row ++ drop (length answer) d)
  unfolding onto
  laid_all row e h = record { number = sym (room_enough h); count = refl; buffer = rw e refl }

  pub room_had : 0 ≡ room_number 0 answer d → length answer ≤ length d
  unfolding room_number
  room_had e = go (leb (length answer) (length d)) refl e
    where
      go : (b : Bool) → leb (length answer) (length d) ≡ b → ◌≡◌ {A = ℕ} 0 (pick b 0 24) → length answer ≤ length d
      go true q h = leb-true _ _ q
      go false q h = absurd (omega arith)

  -- a call that is refused earlier keeps its number
  pub room_refused : (earlier : ℕ) → eqb earlier 0 ≡ false → room_number earlier answer d ≡ earlier
  unfolding room_number
  room_refused earlier e = rw e

-- a table for which a call writes is well formed
pub wrote_formed : (tb : Table) (s : ℕ) (answer d : List ℕ) → 0 ≡ room_number (set_number tb s) answer d → WellFormed tb
unfolding set_number room_number
wrote_formed tb s answer d e = by (well_formed tb) refl
  where
    by : (b : Bool) → well_formed tb ≡ b → WellFormed tb
    by true w = formed tb w
    by false w = let q : ◌≡◌ {A = ℕ} 0 20 = rw w at e in absurd (omega arith)

-- ---- the returns of a call on a table and a set that neither refuses; d is what the buffer held

module _ (tb : Table) (s : ℕ) (answer : Table → ℕ → List ℕ) (d : List ℕ) (g : Given) (same : (g.table.table ≡ tb) × (g.set ≡ s)) (n : ℕ) (k : n ≡ length (answer g.table.table g.set)) where
  pub writes_24 : length d < n → WritesOnto (set_number tb s) (answer tb s) d (Err BufferShort) d
  unfolding set_number room_number
  writes_24 w = rw (← same.0, ← same.1) (record { number = rw (g.formed, g.known, ← k, lt-leb n (length d) w); count = refl; buffer = refl })

  pub writes_0 : n ≤ length d → (d' : List ℕ) → d' ≡ onto (answer g.table.table g.set) d → WritesOnto (set_number tb s) (answer tb s) d (Ok n) d'
  unfolding set_number room_number
  writes_0 w d' h = rw (← same.0, ← same.1) (record { number = rw (g.formed, g.known, ← k, le-leb n (length d) w); count = k; buffer = h })

-- ---- what an accepted call leaves

module _ (earlier : ℕ) (answer d : List ℕ) (n : ℕ) (e : List ℕ) (a : WritesOnto earlier answer d (Ok n) e) where
  -- each part of the answer stands in the buffer,
  pub writes_part : (m k : ℕ) → m + k ≤ length answer → take k (drop m e) ≡ take k (drop m answer)
  writes_part m k h = rw a.buffer (onto_slice answer d m k h)

  -- and each byte
  pub writes_byte : (i : ℕ) → i < length answer → get_or e i 0 ≡ get_or answer i 0
  writes_byte i h = rw a.buffer (onto_get answer d i h)
