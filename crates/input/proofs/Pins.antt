-- The promise of `read_full` leaves one count and one run of bytes, where the input's bytes are known. Assumes nothing.
use Rattle.std.proofs.Common.{◌≡◌, ℕ, ◌+◌, ◌≤◌, ◌<◌, min, List, Option, None, Some, Result, Ok, Err, IfOk, length, take, drop, sym, ap, ◌∙◌, arith, length-append, length-take-le}
use Rattle.std.proofs.lemmas.List.{drop_at, take_at}
use Rattle.input.specs.Input.{ReadsFull}

-- as many bytes as the input has and the buffer holds; they are the input's first, and the others stay
pub read_full_pins : {E : Type 0} (xs buf : List ℕ) (new : Option (List ℕ)) (r : Result ℕ E) → IfOk r (λ n. n ≤ length buf) → ReadsFull (Some xs) new r buf
    → IfOk r (λ n. (n ≡ min (length xs) (length buf)) × (take n buf ≡ take n xs) × (new ≡ Some (drop n xs)))
read_full_pins xs buf new (Err e) bound full = tt
read_full_pins xs buf None (Ok n) bound full = absurd full.0
read_full_pins xs buf (Some ys) (Ok n) bound full =
    let long : length (take n buf) ≡ n = length-take-le n buf bound in
    let whole : length xs ≡ n + length ys = ap length full.0 ∙ length-append (take n buf) ys ∙ ap (λ (k : ℕ). k + length ys) long in
    let rest : n < length buf → length ys ≡ 0 = λ short. ap length (full.1 short) in (
      grind arith,
      sym (ap (take n) full.0 ∙ take_at (take n buf) ys n long),
      ap Some (sym (ap (drop n) full.0 ∙ drop_at (take n buf) ys n long)),
    )
