-- How a record moves the cursor.
-- Assumes nothing.
use Rattle.std.specs.Prelude.{◌≡◌, Option, Some, Result, Ok, Err, MatchResult}
use Rattle.table.specs.declared.Refusal.{Refusal}
use Rattle.records.specs.declared.Record.{Record}
use Rattle.records.specs.declared.cursor.Cursor.{Cursor}
use Rattle.records.specs.Step.{Rule, tried}

-- what the rule gives is what the cursor has then, or it is refused where it was
abbrev pub MovesBy : Rule → Cursor → Cursor → Result (Option Record) Refusal → Type 0
MovesBy rule before after r = MatchResult r
    (λ o. tried rule ≡ Ok (record { outcome = Ok o; place = after.place; sofar = after.sofar }))
    (λ why. (tried rule ≡ Err why) × (after.place ≡ before.place))

-- the same of a record
abbrev pub GivesBy : Rule → Cursor → Cursor → Result Record Refusal → Type 0
GivesBy rule before after r = MatchResult r
    (λ x. tried rule ≡ Ok (record { outcome = Ok (Some x); place = after.place; sofar = after.sofar }))
    (λ why. (tried rule ≡ Err why) × (after.place ≡ before.place))
