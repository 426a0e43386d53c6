-- Pieces of text as bytes. Assumes nothing.
use Rattle.std.specs.Prelude.{List, [], ◌∷◌, ◌++◌, ◌≡◌, ℕ, zero, suc, ◌+◌, ◌/◌, ◌%◌, ltb, take}
use Rattle.folds.specs.Fold.{pick}

-- at most k decimal digits of n, the highest first
unfoldable pub digits : ℕ → ℕ → List ℕ
digits zero n = []
digits (suc k) n = pick (ltb n 10) ((48 + n) ∷ []) (digits k (n / 10) ++ ((48 + n % 10) ∷ []))

-- n as a plain decimal: it has no more than n + 1 digits
unfoldable pub decimal_of : ℕ → List ℕ
decimal_of n = digits (suc n) n

-- a page takes no more bytes
abbrev pub page_size : ℕ
page_size = 7364

-- `piece` is written behind what stands on a page, as far as the page goes
pub record Adds (piece old new : List ℕ) : Type 0 where
  pub page : take page_size new ≡ take page_size (old ++ piece)
