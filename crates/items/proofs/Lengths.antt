-- How long the items of a line are at most. Assumes nothing.
use mathlib.Core.Bool.{Bool, true, false}
use mathlib.Core.List.{List}
use mathlib.Core.Path.{◌≡◌, refl}
use Prim.Native.Nat.{ℕ, zero, suc, ◌+◌, ◌*◌, ◌^◌, ◌≤◌, ◌<◌}
use native.Mathlib.Omega.{arith}
use lib.Dec.{eqb}
use lib.ListN.{get_or, length, length-append}
use Rattle.folds.proofs.Joined.{joined_none}
use Rattle.folds.proofs.Lengths.{length_of, rows_more, rows_most, total_first, total_most, total_once, total_plus, total_zero, when_length}
use Rattle.folds.proofs.Total.{total_more}
use Rattle.folds.specs.Fold.{count, joined, pick, total}
use Rattle.items.specs.Items.{in_class, list_text, member_text, members_text, none_word, output_item, signature_text, spaced, tests_text}
use Rattle.sets.specs.Sets.{has}
use Rattle.text.proofs.Decimal.{decimal_length}

-- ---- lists

pub spaced_most : (k n : ℕ) → n < 10 ^ suc k → length (spaced n) ≤ suc (suc k)
unfolding spaced
spaced_most k n h = omega (arith, decimal_length k n h)

list_most : (p : ℕ → Bool) (item : ℕ → List ℕ) (k m n : ℕ) → 5 ≤ m → n * k ≤ m → ((i : ℕ) → i < n → length (item i) ≤ k) → length (list_text p item n) ≤ m
unfolding list_text
list_most p item k m n h l each = go (eqb (count p n) 0)
  where
    go : (b : Bool) → length (pick b none_word (joined p item n)) ≤ m
    go true = omega arith
    go false = omega (arith, rows_most p item k n each)

pub tests_most : (s tests : ℕ) → tests ≤ 24 → length (tests_text s tests) ≤ 72
unfolding tests_text
tests_most s tests h = list_most (has s) spaced 3 72 tests (omega arith) (omega arith) (λ i l. spaced_most 1 i (omega arith))

pub signature_most : (out : ℕ → ℕ → ℕ) (tests s c : ℕ) → tests ≤ 24 → ((t c : ℕ) → out t c < 256) → length (signature_text out tests s c) ≤ 96
unfolding signature_text output_item
signature_most out tests s c h small = list_most (has s) (output_item out c) 4 96 tests (omega arith) (omega arith) (λ t l. spaced_most 2 (out t c) (omega (arith, small t c)))

-- ---- members: each column is a member of one class

abbrev pub members_length : List ℕ → List ℕ → List ℕ → ℕ → ℕ → ℕ
members_length lines stuck of n k = length (members_text lines stuck of n k)

members_total : (lines stuck of : List ℕ) (n m : ℕ) → total (members_length lines stuck of n) m ≤ total (length_of (member_text lines stuck)) n
unfolding members_text in_class length_of
members_total lines stuck of zero m =
    omega (arith, total_zero (members_length lines stuck of 0) m (λ k l. rw (joined_none (in_class of k) (member_text lines stuck)) refl))
members_total lines stuck of (suc n) m =
    omega (
      arith,
      total_plus (members_length lines stuck of n) (λ k. when_length (eqb (get_or of n 0) k) (member_text lines stuck n)) (members_length lines stuck of (suc n)) m (λ k. rows_more (in_class of k) (member_text lines stuck) n),
      total_once (get_or of n 0) (member_text lines stuck n) m,
      members_total lines stuck of n m,
      total_more (length_of (member_text lines stuck)) n,
    )

fault_most : (lines stuck : List ℕ) (f : ℕ) → get_or lines f 0 < 256 → get_or stuck f 0 ≤ 1 → length (member_text lines stuck (suc f)) ≤ 6
unfolding member_text
fault_most lines stuck f h k = rw length-append (omega (arith, spaced_most 2 (get_or lines f 0) (omega arith), decimal_length 0 (get_or stuck f 0) (omega arith)))

-- "good" takes 5 bytes, each fault at most 6
pub members_most : (lines stuck of : List ℕ) (faults m : ℕ) → faults ≤ 60 → ((f : ℕ) → get_or lines f 0 < 256) → ((f : ℕ) → f < faults → get_or stuck f 0 ≤ 1)
    → total (members_length lines stuck of (faults + 1)) m ≤ 365
unfolding length_of member_text
members_most lines stuck of faults m h bytes bits =
    let member = length_of (member_text lines stuck) in
    let e : faults + 1 ≡ suc faults = omega arith in
    omega (
      arith,
      members_total lines stuck of (faults + 1) m,
      rw (← e) at (total_first member faults),
      total_most (λ f. member (suc f)) (λ f. 0) 6 faults (λ f l. omega (arith, fault_most lines stuck f (bytes f) (bits f l))),
      total_zero (λ f. 0) faults (λ f l. refl),
    )
