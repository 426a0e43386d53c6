-- What a call gives that writes to a lent buffer.
-- Assumes nothing.
use Rattle.std.specs.Prelude.{List, Result, Ok, Err, ◌≡◌, ℕ, leb, length}
use Rattle.folds.specs.Fold.{pick, onto}
use Rattle.lent.specs.Lent.{accept, room_number}
use Rattle.table.specs.declared.Refusal.{Refusal}
use Rattle.table.specs.declared.Refusal.TheVariants.{BufferShort}
use Rattle.flat.specs.Packed.{packed}

-- an answer written to the front of a buffer that held `entry`, with a value; 24 where the buffer is too short, after `earlier`.
-- Refused: the value is 0 and the buffer stays.
pub record CallWrites (earlier value : ℕ) (answer entry : List ℕ) (r : ℕ) (exit : List ℕ) : Type 0 where
  pub is : r ≡ packed (room_number earlier answer entry) (accept (room_number earlier answer entry) value 0)
  pub buffer : exit ≡ accept (room_number earlier answer entry) (onto answer entry) entry

-- the same before it is one number, where nothing refuses the call earlier
pub record Lays (value : ℕ) (answer entry : List ℕ) (r : Result ℕ Refusal) (exit : List ℕ) : Type 0 where
  pub is : r ≡ pick (leb (length answer) (length entry)) (Ok value) (Err BufferShort)
  pub buffer : exit ≡ pick (leb (length answer) (length entry)) (onto answer entry) entry
