-- Numbers in a list, and the numbers of a range that pass a test.
-- Assumes nothing.
use Rattle.std.specs.Prelude.{ℕ, zero, suc, Bool, true, false, ◌||◌, List, [], ◌∷◌, eqb}

-- whether a number stands in a list
abbrev pub elem : ℕ → List ℕ → Bool
elem k [] = false
elem k (x ∷ xs) = eqb k x || elem k xs

abbrev pub keep : Bool → ℕ → List ℕ → List ℕ
keep true k ks = k ∷ ks
keep false k ks = ks

-- the numbers of from, from + 1, .., n of them, that pass a test, in ascending order
unfoldable pub numbers : (ℕ → Bool) → ℕ → ℕ → List ℕ
numbers p from zero = []
numbers p from (suc n) = keep (p from) from (numbers p (suc from) n)

-- some element passes a test: std's `list_any`, written out since definitions are read beside 01 without std
abbrev pub some : {A : Type 0} → (A → Bool) → List A → Bool
some p [] = false
some p (x ∷ xs) = p x || some p xs
