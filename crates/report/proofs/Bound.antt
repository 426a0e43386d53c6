-- No text is longer than 7,364 bytes. Assumes nothing.
use mathlib.Core.List.{List}
use mathlib.Core.Path.{◌≡◌, refl, ◌∙◌}
use Prim.Native.Nat.{ℕ, ◌≤◌}
use native.Mathlib.Omega.{arith}
use lib.ListN.{length}
use Rattle.book.specs.Given.{Bytes}
use Rattle.book.specs.Reading.{read_book}
use Rattle.book_laws.proofs.Accepted.{accepted_gave, accepts_whole}
use Rattle.book_laws.proofs.Settles.{place_most}
use Rattle.lent.proofs.Lent.{room_enough}
use Rattle.report.specs.Answer.{IsText, ReportIs, TextOf}
use Rattle.lines.proofs.Lengths.{longest, refused_most, table_most}
use Rattle.table.proofs.Answers.{number_bounds}
use Rattle.table.specs.Answers.{number_of, answer_number}
use Rattle.std.specs.Prelude.{Result, Ok, Err}
use Rattle.table.specs.declared.Refusal.{Refusal}

pub text_most : (book text : List ℕ) → Bytes book → IsText book text → length text ≤ longest
text_most book text b t = go (read_book book).verdict refl t
  where
    go : (v : Result (Unit {0}) Refusal) → (read_book book).verdict ≡ v → TextOf v (read_book book).place (read_book book).table text → length text ≤ longest
    go (Ok accepted) e t =
        let g = accepted_gave book _ (accepts_whole book e) in
        rw t.is_text (table_most _ g.formed (g.typed b) t.aside t.essential t.detect t.diagnose)
    go (Err why) e t = rw t (refused_most (number_of why) (read_book book).place (number_bounds why).1 (place_most book).0)

-- a buffer of that size is never too short
pub long_enough : (book entry : List ℕ) (r : Result ℕ Refusal) (exit : List ℕ) → Bytes book → longest ≤ length entry → ReportIs book entry r exit → answer_number r ≡ 0
long_enough book entry r exit b l a =
    a.written.number ∙ room_enough a.text entry (omega (arith, text_most book a.text b a.is_text))
