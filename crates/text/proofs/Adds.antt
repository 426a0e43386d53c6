-- Pieces one after the other on a page are one piece. Assumes nothing.
use mathlib.Core.List.{List, [], ◌∷◌, ◌++◌, append_assoc}
use mathlib.Core.Bool.{Bool, true, false}
use mathlib.Core.Path.{◌≡◌, refl, sym, ap, ◌∙◌}
use Prim.Native.Nat.{ℕ, zero, suc, ◌+◌, ◌%◌, ◌≤◌, ◌<◌, ◌^◌}
use native.Mathlib.Numerals.{add-one}
use native.Mathlib.Omega.{arith}
use lib.ListN.{length, take, get_or}
use lib.Seq.{take_all, take-suc}
use Rattle.std.proofs.lemmas.Fmt.{decimal_digit, decimal_step}
use Rattle.std.proofs.lemmas.List.{append-nil, length-take-le, take-append-le}
use Rattle.std.specs.Fmt.{decimal}
use Rattle.folds.specs.Fold.{always, joined}
use Rattle.folds.proofs.Joined.{joined_no, joined_none, joined_yes}
use Rattle.text.proofs.Decimal.{by_digits, decimal_more, decimal_one}
use Rattle.text.specs.Text.{Adds, decimal_of, page_size}

-- only the first n of what stands before count
take_front : (n : ℕ) (xs ys : List ℕ) → take n (take n xs ++ ys) ≡ take n (xs ++ ys)
take_front zero xs ys = refl
take_front (suc n) [] ys = refl
take_front (suc n) (x ∷ xs) ys = ap (λ (l : List ℕ). x ∷ l) (take_front n xs ys)

pub adds_nothing : (b : List ℕ) → Adds [] b b
adds_nothing b = record { page = rw (append-nil b) refl }

-- a piece behind a piece
pub adds_then : (xs ys b b' b'' : List ℕ) → Adds xs b b' → Adds ys b' b'' → Adds (xs ++ ys) b b''
adds_then xs ys b b' b'' v w = record {
  page = w.page ∙ sym (take_front page_size b' ys) ∙ ap (λ (l : List ℕ). take page_size (l ++ ys)) v.page ∙ take_front page_size (b ++ xs) ys
      ∙ ap (λ (l : List ℕ). take page_size l) (append_assoc b xs ys);
}

-- a word byte by byte
pub word_more : (i : ℕ) (word b₀ b d : List ℕ) → i < length word → Adds (take i word) b₀ b → Adds (get_or word i 0 ∷ []) b d → Adds (take (i + 1) word) b₀ d
word_more i word b₀ b d l v w = rw (add-one i, take-suc word i 0 l) (adds_then (take i word) (get_or word i 0 ∷ []) b₀ b d v w)

-- a number's decimal is what the library prints of it
pub decimal_printed : (n : ℕ) → n < 2 ^ 64 → decimal_of n ≡ decimal n
decimal_printed = by_digits (λ n. n < 2 ^ 64 → decimal_of n ≡ decimal n)
    (λ n h l. decimal_one n h ∙ sym (decimal_digit n h))
    (λ n h e l. decimal_more n h ∙ ap (λ (ds : List ℕ). ds ++ ((48 + n % 10) ∷ [])) (e (omega arith)) ∙ sym (decimal_step n h l))

-- ---- a page's bytes and its place

pub adds_past : (at : ℕ) (piece bytes b : List ℕ) → length bytes ≡ page_size → at ≤ page_size → page_size ≤ at → take at bytes ≡ b → Adds piece b b
adds_past at piece bytes b l h f v = record {
  page = sym (take-append-le page_size b piece (omega (arith, ap (λ (l : List ℕ). length l) v, length-take-le at bytes (omega (arith, l)))));
}

-- ---- a loop that writes a piece for each number that has p

module _ (p : ℕ → Bool) (g : ℕ → List ℕ) (b₀ : List ℕ) where
  pub each_start : Adds (joined p g 0) b₀ b₀
  each_start = rw (joined_none p g) (adds_nothing b₀)

  pub each_put : (i : ℕ) (r : Bool) (b d : List ℕ) → Adds (joined p g i) b₀ b → r ≡ p i → r ≡ true → Adds (g i) b d → Adds (joined p g (i + 1)) b₀ d
  each_put i r b d v q h w = rw (joined_yes p g i (sym q ∙ h)) (adds_then (joined p g i) (g i) b₀ b d v w)

  pub each_pass : (i : ℕ) (r : Bool) (b : List ℕ) → Adds (joined p g i) b₀ b → r ≡ p i → r ≡ false → Adds (joined p g (i + 1)) b₀ b
  each_pass i r b v q h = rw (joined_no p g i (sym q ∙ h)) v

pub ruleset each = (each_start, each_put, each_pass)

-- a piece for every number
pub each_all : (g : ℕ → List ℕ) (i : ℕ) (b₀ b d : List ℕ) → Adds (joined always g i) b₀ b → Adds (g i) b d → Adds (joined always g (i + 1)) b₀ d
unfolding always
each_all g i b₀ b d v w = each_put always g b₀ i true b d v refl refl w

-- a text that fits an empty page is what the page holds then
pub adds_whole : (text page : List ℕ) → length page ≤ page_size → length text ≤ page_size → Adds text [] page → page ≡ text
adds_whole text page h k a = sym (take_all page_size page h) ∙ a.page ∙ take_all page_size text k
