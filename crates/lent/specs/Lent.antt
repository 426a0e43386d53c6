-- Calls that write their answer to the front of a lent buffer. The sentences are document 01's.
-- Assumes nothing.
use Rattle.std.specs.Prelude.{List, ◌≡◌, ℕ, eqb, leb, length, Result}
use Rattle.folds.specs.Fold.{pick, onto}
use Rattle.sets.specs.Sets.{within}
use Rattle.table.specs.Answers.{answer_number, answer_value}
use Rattle.table.specs.Test.{well_formed}
use Rattle.table.specs.declared.Refusal.{Refusal}
use Rattle.table.specs.declared.Table.{Table}

-- of an accepted call a, of a refused one b
abbrev pub accept : {A : Type 0} → ℕ → A → A → A
accept number a b = pick (eqb number 0) a b

-- "20 | a call's table is not well formed", "21 | a given set holds a test that the table lacks", in that order; 0 where neither is so
unfoldable pub set_number : Table → ℕ → ℕ
set_number tb s = pick (well_formed tb) (pick (within s tb.tests) 0 21) 20

-- "24 | the lent buffer is shorter than the answer", where nothing refuses the call earlier
unfoldable pub room_number : ℕ → List ℕ → List ℕ → ℕ
room_number earlier answer entry = accept earlier (pick (leb (length answer) (length entry)) 0 24) earlier

-- what the call answers, and what it leaves of a buffer that held `entry`; `earlier` is the number by which it is refused
-- before the buffer is looked at, or 0
pub record WritesOnto (earlier : ℕ) (answer entry : List ℕ) (r : Result ℕ Refusal) (exit : List ℕ) : Type 0 where
  pub number : answer_number r ≡ room_number earlier answer entry
  -- "A refused call returns the number with the empty set, list or count 0, and its buffers keep their bytes."
  pub count : answer_value r ≡ accept (answer_number r) (length answer) 0
  -- "A longer buffer is no refusal: bytes past the answer stay."
  pub buffer : exit ≡ accept (answer_number r) (onto answer entry) entry
