-- A number in decimal digits, as bytes.
-- Assumes nothing.
use Rattle.std.specs.Prelude.{ℕ, zero, suc, ◌+◌, ◌/◌, ◌%◌, cond, List, [], ◌∷◌, ◌++◌, ltb}

-- the digits of a number that is below `most`, the last of them its remainder by 10
unfoldable pub digits_below : ℕ → ℕ → List ℕ
digits_below zero n = []
digits_below (suc most) n = cond (ltb n 10) ((48 + n) ∷ []) (digits_below most (n / 10) ++ ((48 + n % 10) ∷ []))

unfoldable pub decimal : ℕ → List ℕ
unfolding digits_below
decimal n = digits_below (suc n) n
