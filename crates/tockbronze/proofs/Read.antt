-- The call that reads a book. Assumes nothing.
use mathlib.Core.List.{List}
use mathlib.Core.Path.{◌≡◌}
use Prim.Native.Nat.{ℕ, ◌≤◌}
use Rattle.std.specs.Prelude.{Ok, Result}
use Rattle.table.specs.Answers.{answer_number, answer_value}
use Rattle.table.specs.WellFormed.{WellFormed}
use Rattle.table.specs.declared.Reading.{Reading}
use Rattle.table.specs.declared.Refusal.{Refusal}
use Rattle.book.specs.Reading.{read_book}
use Rattle.book_laws.proofs.Accepted.{accepted_gave, accepts_whole}
use Rattle.book_laws.proofs.Settles.{place_most}
use Rattle.flat.specs.Flat.{bytes_of}
use Rattle.flat.specs.Packed.{packed}
use Rattle.flat.specs.Writes.{Lays}
use Rattle.flat.proofs.Room.{lays_call}
use Rattle.tockbronze.specs.Calls.{ReadCall}

module _ (book : List ℕ) (a : Reading) (ea : a ≡ read_book book) where
  pub near : a.place ≤ 5991
  near = rw ea (place_most book).0

  read_formed : a.verdict ≡ Ok tt → WellFormed a.table
  read_formed v = rw ea (accepted_gave book _ (accepts_whole book (rw ea at v))).formed

  pub few_tests : a.verdict ≡ Ok tt → a.table.tests ≤ 24
  few_tests v = (read_formed v).tests_fit

  pub few_faults : a.verdict ≡ Ok tt → a.table.faults ≤ 60
  few_faults v = (read_formed v).faults_fit

  pub read_accepted : (d : List ℕ) (w : Result ℕ Refusal) (r : ℕ) (e : List ℕ) → a.verdict ≡ Ok tt → Lays a.place (bytes_of a.table) d w e → r ≡ packed (answer_number w) (answer_value w) → ReadCall book d r e
  read_accepted d w r e v l er =
      let q : (read_book book).verdict ≡ Ok tt = rw ea at v in
      rw q (rw ea at (lays_call a.place (bytes_of a.table) d w r e l er))
