-- The promise of each exported call leaves one result. Assumes nothing.
use mathlib.Core.List.{List}
use mathlib.Core.Path.{◌≡◌, sym, ◌∙◌}
use Prim.Native.Nat.{ℕ}
use denote.Ref.{Bor}
use Rattle.table.specs.declared.Reading.{Reading}
use Rattle.records.specs.declared.SoFar.{SoFar}
use Rattle.records.specs.declared.Stepped.{Stepped}
use Rattle.book.specs.Reading.{read_book}
use Rattle.book.specs.Sound.{record_at}
use Rattle.held_book.specs.declared.Reader.{Reader}
use Rattle.held_book.specs.Held.{Keeps}

keeps_pins : (book : Bor (List ℕ)) (place : ℕ) (r₁ r₂ : Reader) → Keeps book place r₁ → Keeps book place r₂ → r₁ ≡ r₂
keeps_pins book place r₁ r₂ a b = rw (a.0 ∙ sym b.0, a.1 ∙ sym b.1)

pub hold_pins : (book : Bor (List ℕ)) (r₁ r₂ : Reader) → Keeps book 0 r₁ → Keeps book 0 r₂ → r₁ ≡ r₂
hold_pins book = keeps_pins book 0

pub moved_pins : (reader : Reader) (place : ℕ) (r₁ r₂ : Reader) → Keeps reader.book place r₁ → Keeps reader.book place r₂ → r₁ ≡ r₂
moved_pins reader = keeps_pins reader.book

pub next_pins : (reader : Reader) (sofar : SoFar) (r₁ r₂ : Stepped) → r₁ ≡ record_at reader.book.now reader.at sofar → r₂ ≡ record_at reader.book.now reader.at sofar → r₁ ≡ r₂
next_pins reader sofar r₁ r₂ a b = a ∙ sym b

pub step_held_pins : (book : List ℕ) (place : ℕ) (sofar : SoFar) (r₁ r₂ : Stepped) → r₁ ≡ record_at book place sofar → r₂ ≡ record_at book place sofar → r₁ ≡ r₂
step_held_pins book place sofar r₁ r₂ a b = a ∙ sym b

pub read_held_pins : (book : List ℕ) (r₁ r₂ : Reading) → r₁ ≡ read_book book → r₂ ≡ read_book book → r₁ ≡ r₂
read_held_pins book r₁ r₂ a b = a ∙ sym b
