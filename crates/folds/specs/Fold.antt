-- Folds over the numbers below n, one for each kind of loop, and a list written to the front of a lent buffer.
-- Assumes nothing.
use Rattle.std.specs.declared.option.Option.{Option}
use Rattle.std.specs.Option.{MatchOption}
use Rattle.std.specs.Prelude.{◌≡◌, ◌<◌, Bool, true, false, List, [], ◌∷◌, ◌++◌, ℕ, zero, suc, ◌+◌, length, drop}

-- a where the test holds, else b
abbrev pub pick : {A : Type 0} → Bool → A → A → A
pick true a b = a
pick false a b = b

abbrev pub both : Bool → Bool → Bool
both true b = b
both false b = false

abbrev pub either : Bool → Bool → Bool
either true b = true
either false b = b

-- a test's answer, for what it tests
abbrev pub Tells : Bool → Type 0 → Type 0
Tells true P = P
Tells false P = P → ⊥

-- p holds of every number below n
unfoldable pub every : (ℕ → Bool) → ℕ → Bool
every p zero = true
every p (suc n) = both (every p n) (p n)

-- some number below n has p
unfoldable pub some : (ℕ → Bool) → ℕ → Bool
some p zero = false
some p (suc n) = either (some p n) (p n)

-- how many numbers below n have p
unfoldable pub count : (ℕ → Bool) → ℕ → ℕ
count p zero = 0
count p (suc n) = count p n + pick (p n) 1 0

-- the sum of f over the numbers below n
unfoldable pub total : (ℕ → ℕ) → ℕ → ℕ
total f zero = 0
total f (suc n) = total f n + f n

-- the lowest number below n that has p, and n where there is none
unfoldable pub first : (ℕ → Bool) → ℕ → ℕ
first p zero = zero
first p (suc n) = pick (p zero) zero (suc (first (λ i. p (suc i)) n))

-- o is the lowest number below n that has p, or None where there is none
abbrev pub Finds : (ℕ → Bool) → ℕ → Option ℕ → Type 0
Finds p n o = MatchOption o (first p n ≡ n) (λ i. (i < n) × (i ≡ first p n))

-- the rows g i, for each i below n that has p, in rising order
unfoldable pub joined : (ℕ → Bool) → (ℕ → List ℕ) → ℕ → List ℕ
joined p g zero = []
joined p g (suc n) = joined p g n ++ pick (p n) (g n) []

-- a row of one
unfoldable pub single : (ℕ → ℕ) → ℕ → List ℕ
single f i = f i ∷ []

-- f i for each i below n that has p, in rising order
abbrev pub gather : (ℕ → Bool) → (ℕ → ℕ) → ℕ → List ℕ
gather p f n = joined p (single f) n

unfoldable pub always : ℕ → Bool
always i = true

-- f 0, f 1, .. f (n - 1)
abbrev pub listed : (ℕ → ℕ) → ℕ → List ℕ
listed f n = joined always (single f) n

-- the buffer d with xs over its front
unfoldable pub onto : List ℕ → List ℕ → List ℕ
onto xs d = xs ++ drop (length xs) d
