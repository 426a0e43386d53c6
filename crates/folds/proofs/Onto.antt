-- Laws of `onto`: a list over the front of a buffer. Assumes nothing.
use mathlib.Core.Path.{◌≡◌, refl, ◌∙◌}
use mathlib.Core.List.{List, [], ◌∷◌, ◌++◌, append_assoc, append-nil}
use Prim.Native.Nat.{ℕ, ◌+◌, ◌-◌, ◌^◌, ◌≤◌, ◌<◌}
use native.Mathlib.Nat.{lt_of_le_of_lt}
use native.Mathlib.Numerals.{add-one}
use native.Mathlib.Omega.{arith}
use lib.ListN.{length, get_or, take, drop, set, length-append, length-drop, length-take, get_or-append}
use lib.Seq.{take-append-le, drop-append-le, drop-drop, drop-cons, set-append_seam, append_snoc, drop-length, take-append_seam, drop-append_seam}
use mir.Syntax.{w64}
use mir.Val.{Fits}
use Rattle.folds.specs.Fold.{onto}

pub onto_none : (d : List ℕ) → onto [] d ≡ d
unfolding onto
onto_none d = refl

pub onto_length : (xs d : List ℕ) → length xs ≤ length d → length (onto xs d) ≡ length d
unfolding onto
onto_length xs d h = simp (length-append, length-drop) (omega arith)

-- what covers the whole buffer is all of it
pub onto_full : (xs d : List ℕ) → length xs ≡ length d → onto xs d ≡ xs
unfolding onto
onto_full xs d h = rw (h, drop-length, append-nil)

-- what is written is read back: all of it, a part, an entry
pub onto_front : (xs d : List ℕ) → take (length xs) (onto xs d) ≡ xs
unfolding onto
onto_front xs d = take-append_seam xs (drop (length xs) d)

pub onto_slice : (xs d : List ℕ) (m k : ℕ) → m + k ≤ length xs → take k (drop m (onto xs d)) ≡ take k (drop m xs)
unfolding onto
onto_slice xs d m k h =
    let l : k ≤ length (drop m xs) = simp length-drop (omega arith) in
    rw (drop-append-le m xs (drop (length xs) d) (omega arith), take-append-le k (drop m xs) (drop (length xs) d) l)

pub onto_get : (xs d : List ℕ) (i : ℕ) → i < length xs → get_or (onto xs d) i 0 ≡ get_or xs i 0
unfolding onto
onto_get xs d i h = get_or-append xs (drop (length xs) d) 0 i h

-- a store right behind what is written
pub onto_store : (xs d : List ℕ) (v : ℕ) → length xs < length d → set (onto xs d) (length xs) v ≡ onto (xs ++ (v ∷ [])) d
unfolding onto
onto_store xs d v h =
    rw (drop-cons d (length xs) 0 h, set-append_seam, append_snoc)
    (rw length-append (rw (add-one (length xs)) refl))

onto_part₀ : (xs row d : List ℕ) → take (length xs) (onto xs d) ++ (row ++ drop (length xs + length row - length xs) (drop (length xs) (onto xs d))) ≡ onto (xs ++ row) d
unfolding onto
onto_part₀ xs row d =
    let k : length xs + length row - length xs ≡ length row = omega arith in
    rw (k, take-append_seam, drop-append_seam, drop-drop, length-append, append_assoc)

-- a part behind what is written, lent on and filled with a row: the buffer as a call `f(&mut s[at..at + n])` leaves it
pub onto_part : (xs row d s s' : List ℕ) (at n : ℕ) → s ≡ onto xs d → at ≡ length xs → n ≡ length row
    → s' ≡ take at s ++ (row ++ drop (at + n - at) (drop at s)) → s' ≡ onto (xs ++ row) d
onto_part xs row d s s' at n e ea en t = t ∙ rw (e, ea, en) (onto_part₀ xs row d)

-- the part that is lent is as long as its row
pub part_length : (n at k : ℕ) (b : List ℕ) → at + n ≤ length b → n ≡ k → length (take (at + n - at) (drop at b)) ≡ k
part_length n at k b h e = simp (length-take, length-drop) (omega arith)

-- the end of a part that lies in the buffer fits
pub part_fits : (n at : ℕ) (d b : List ℕ) → at + n ≤ length b → length b ≡ length d → length d < 2 ^ 64 → Fits w64 (at + n)
part_fits n at d b h l m = record { fits = lt_of_le_of_lt h (rw l m) }
