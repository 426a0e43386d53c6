-- What a read into a lent buffer gives. Assumes nothing.
use Rattle.std.specs.Io.KnownBytes.{Consumes, IsAtEnd}
use Rattle.std.specs.Prelude.{ℕ, ◌<◌, List, length, take, Option, Result, IfOk}

-- the first bytes that the input has, as many as the buffer holds, or all where there are fewer
abbrev pub ReadsFull : {E : Type 0} → Option (List ℕ) → Option (List ℕ) → Result ℕ E → List ℕ → Type 0
ReadsFull old new r buf = IfOk r (λ n. Consumes old new (take n buf) × (n < length buf → IsAtEnd new))
