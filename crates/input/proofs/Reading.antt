-- One more read in place: what it gave stands after what the reads before it gave. Assumes nothing.
use Rattle.std.proofs.Common.{◌≡◌, ℕ, ◌+◌, ◌≤◌, List, ◌++◌, Option, length, take, refl, sym, ap, subst, ◌∙◌, arith, length-take-le}
use Rattle.std.proofs.KnownBytes.{Consumes-trans}
use Rattle.std.proofs.Math.Seq.{take-append-add}
use Rattle.std.proofs.lemmas.Slice.{take-put_mid}
use Rattle.std.specs.Io.KnownBytes.{Consumes}
use borrow.Rule.Slice.PartMut.{put_mid}
use lib.Seq.{take-take}

-- the first n bytes of a part that was overwritten stand after what stood before it
take_on : (i k n : ℕ) (xs part : List ℕ) → i ≤ length xs → n ≤ length part → take (i + n) (put_mid i k xs part) ≡ take i xs ++ take n part
take_on i k n xs part within few =
    let long : length (take i xs) ≡ i = length-take-le i xs within in
    sym (take-take (i + n) (i + length part) (put_mid i k xs part) (omega arith))
    ∙ ap (take (i + n)) (take-put_mid i k xs part (i + length part) refl within)
    ∙ ap (λ (j : ℕ). take (j + n) (take i xs ++ part)) (sym long)
    ∙ take-append-add (take i xs) part n

pub reads_on : (a b c : Option (List ℕ)) (i k n : ℕ) (xs part : List ℕ) → i ≤ length xs → n ≤ length part
    → Consumes a b (take i xs) → Consumes b c (take n part) → Consumes a c (take (i + n) (put_mid i k xs part))
reads_on a b c i k n xs part within few before read =
    subst (Consumes a c) (sym (take_on i k n xs part within few)) (Consumes-trans a b c (take i xs) (take n part) before read)
