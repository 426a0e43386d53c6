-- The returns of a call that writes its answer to a lent buffer; d is what the buffer held. Assumes nothing.
use mathlib.Core.Bool.{Bool, true, false}
use mathlib.Core.List.{List}
use mathlib.Core.Path.{◌≡◌, refl, ◌∙◌}
use Prim.Native.Nat.{ℕ, ◌≤◌, ◌<◌}
use native.Mathlib.Omega.{arith}
use borrow.Author.Tests.{ne_eqb, le-leb, lt-leb}
use lib.Dec.{eqb, leb}
use lib.ListN.{length}
use Rattle.folds.specs.Fold.{onto, pick}
use Rattle.lent.proofs.Lent.{room_had, room_refused}
use Rattle.table.proofs.Answers.{answer_one, number_bounds}
use Rattle.std.specs.Prelude.{Result, Ok, Err}
use Rattle.lent.specs.Lent.{room_number, WritesOnto}
use Rattle.table.specs.Answers.{number_of, answer_number, answer_value}
use Rattle.table.specs.declared.Refusal.TheVariants.{BufferShort}
use Rattle.table.specs.declared.Refusal.{Refusal}
use Rattle.flat.specs.Packed.{packed, value_limit}
use Rattle.flat.specs.Writes.{CallWrites, Lays}

-- a call that is refused before the buffer is looked at
pub call_refused : (earlier value : ℕ) (answer d : List ℕ) → eqb earlier 0 ≡ false → CallWrites earlier value answer d earlier d
unfolding packed
call_refused earlier value answer d e = record { is = rw (room_refused answer d earlier e, e) (omega arith); buffer = rw (room_refused answer d earlier e, e) refl }

-- every refusal has a number
pub refusal_some : (why : Refusal) → eqb (number_of why) 0 ≡ false
refusal_some why = ne_eqb (number_of why) 0 (λ e. omega (arith, (number_bounds why).0))

-- and the call's one number is it
pub call_refusal : (why : Refusal) (value : ℕ) (answer d : List ℕ) (r : ℕ) → r ≡ packed (number_of why) 0 → CallWrites (number_of why) value answer d r d
unfolding packed
call_refusal why value answer d r e =
    let n : r ≡ number_of why = omega (arith, e) in
    rw n (call_refused (number_of why) value answer d (refusal_some why))

-- ---- the answer before it is one number

module _ (value : ℕ) (answer d : List ℕ) where
  pub lays_short : length d < length answer → Lays value answer d (Err BufferShort) d
  lays_short h = record { is = rw (lt-leb (length answer) (length d) h) refl; buffer = rw (lt-leb (length answer) (length d) h) refl }

  pub lays_all : (e : List ℕ) → length answer ≤ length d → e ≡ onto answer d → Lays value answer d (Ok value) e
  lays_all e h w = record { is = rw (le-leb (length answer) (length d) h) refl; buffer = rw (le-leb (length answer) (length d) h) w }

  pub lays_written : (n : ℕ) (e : List ℕ) → WritesOnto 0 answer d (Ok n) e → Lays value answer d (Ok value) e
  lays_written n e w = lays_all e (room_had answer d w.number) w.buffer

  -- only a short buffer refuses it
  pub lays_refused : (why : Refusal) (e : List ℕ) → WritesOnto 0 answer d (Err why) e → Lays value answer d (Err why) e
  unfolding room_number
  lays_refused why e w = go (leb (length answer) (length d)) refl
    where
      go : (b : Bool) → leb (length answer) (length d) ≡ b → Lays value answer d (Err why) e
      go true q = let z : number_of why ≡ 0 = rw q at w.number in absurd (omega (arith, z, (number_bounds why).0))
      go false q = let z : number_of why ≡ 24 = rw q at w.number in
          record { is = rw q (answer_one (Err why) (Err BufferShort) z refl); buffer = w.buffer ∙ rw (z, q) refl }

  -- and as one number
  pub lays_call : (a : Result ℕ Refusal) (n : ℕ) (e : List ℕ) → Lays value answer d a e → n ≡ packed (answer_number a) (answer_value a) → CallWrites 0 value answer d n e
  unfolding packed room_number
  lays_call a n e w en = go (leb (length answer) (length d)) refl
    where
      go : (b : Bool) → leb (length answer) (length d) ≡ b → CallWrites 0 value answer d n e
      go true q = record { is = en ∙ rw (w.is, q) (omega arith); buffer = w.buffer ∙ rw q refl }
      go false q = record { is = en ∙ rw (w.is, q) refl; buffer = w.buffer ∙ rw q refl }

  -- a value that fits stays one that fits
  pub lays_small : (a : Result ℕ Refusal) (e : List ℕ) → Lays value answer d a e → value < value_limit → answer_value a < value_limit
  lays_small a e w h = go (leb (length answer) (length d)) w.is
    where
      go : (b : Bool) → a ≡ pick b (Ok value) (Err BufferShort) → answer_value a < value_limit
      go true q = rw q h
      go false q = rw q (omega arith)
