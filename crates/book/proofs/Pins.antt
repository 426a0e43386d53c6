-- The promise of each exported call leaves one result. Assumes nothing.
use mathlib.Core.List.{List}
use mathlib.Core.Path.{◌≡◌, sym, ◌∙◌}
use Prim.Native.Nat.{ℕ}
use Rattle.table.specs.declared.Reading.{Reading}
use Rattle.records.specs.declared.SoFar.{SoFar}
use Rattle.records.specs.declared.Stepped.{Stepped}
use Rattle.records.specs.Step.{start}
use Rattle.book.specs.Reading.{read_book}
use Rattle.book.specs.Sound.{record_at}

pub begin_pins : (r₁ r₂ : SoFar) → r₁ ≡ start → r₂ ≡ start → r₁ ≡ r₂
begin_pins r₁ r₂ a b = a ∙ sym b

pub read_record_pins : (book : List ℕ) (place : ℕ) (sofar : SoFar) (r₁ r₂ : Stepped) → r₁ ≡ record_at book place sofar → r₂ ≡ record_at book place sofar → r₁ ≡ r₂
read_record_pins book place sofar r₁ r₂ a b = a ∙ sym b

pub read_book_pins : (book : List ℕ) (r₁ r₂ : Reading) → r₁ ≡ read_book book → r₂ ≡ read_book book → r₁ ≡ r₂
read_book_pins book r₁ r₂ a b = a ∙ sym b
