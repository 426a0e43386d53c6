-- The loop over the steps: what is left to read gives the reading of the whole book. Assumes nothing.
use mathlib.Core.List.{List}
use mathlib.Core.Path.{◌≡◌, refl, ap, ◌∙◌}
use Prim.Native.Nat.{ℕ, zero, suc, ◌+◌, ◌-◌, ◌<◌, ◌≤◌}
use native.Mathlib.Omega.{arith}
use lib.ListN.{length}
use Rattle.table.proofs.Empty.{empty_formed}
use Rattle.std.specs.Prelude.{Ok, Option, Some}
use Rattle.records.specs.declared.Record.{Record}
use Rattle.records.specs.declared.SoFar.{SoFar}
use Rattle.records.specs.declared.Stepped.{Stepped}
use Rattle.records.specs.Step.{start, CountsFit, step_at}
use Rattle.book.specs.Given.{Reached, begun, read}
use Rattle.book.specs.Reading.{after, read_from, read_book}
use Rattle.records.proofs.Steps.{steps, Goes, goes}

-- reading on from a place, with steps enough, gives the reading of the book
pub record Reads (book : List ℕ) (place : ℕ) (sofar : SoFar) : Type 0 where
  pub fuel : ℕ
  pub enough : length book ≤ place + fuel
  pub counts : CountsFit sofar
  pub reached : Reached book place sofar
  pub same : read_from (suc fuel) book place sofar ≡ read_book book

pub start_counts : CountsFit start
start_counts = record { tests = empty_formed.tests_fit; faults = empty_formed.faults_fit }

pub begins : (book : List ℕ) (sofar : SoFar) → sofar ≡ start → Reads book 0 sofar
unfolding read_book
begins book sofar e = rw e (record { fuel = length book; enough = omega arith; counts = start_counts; reached = begun; same = refl })

module _ (book : List ℕ) (place : ℕ) (sofar : SoFar) (s : Stepped) (r : Reads book place sofar) (e : s ≡ step_at book place sofar) where
  -- what the step says, and what follows it
  pub turn : after s.outcome s (read_from r.fuel book s.place s.sofar) ≡ read_book book
  turn = rw e r.same

  module _ (m : Option Record) (h : s.outcome ≡ Ok m) (x : Record) (k : m ≡ Some x) where
    o : s.outcome ≡ Ok (Some x)
    o = h ∙ ap Ok k

    goes_on : Goes book place s
    goes_on = rw e (goes r.counts (steps book place sofar) x (rw e at o))

    pub less_left : length book - s.place < length book - place
    less_left = let g = goes_on in omega (arith, g.further, g.inside)

    pub onwards : Reads book s.place s.sofar
    onwards = go r.fuel r.enough (rw o at turn)
      where
        g : Goes book place s
        g = goes_on

        on : Reached book s.place s.sofar
        on = rw e (read r.reached x (rw e at o))

        go : (n : ℕ) → length book ≤ place + n → read_from n book s.place s.sofar ≡ read_book book → Reads book s.place s.sofar
        go zero h q = absurd (omega (arith, g.further, g.inside))
        go (suc n) h q = record { fuel = n; enough = omega (arith, g.further); counts = g.counts; reached = on; same = q }
