-- Stretches of a list, how many of its elements in front pass a test, and lists compared element by element.
-- Assumes nothing.
use Rattle.std.specs.Prelude.{ℕ, suc, Bool, true, false, cond, not, ◌&&◌, List, [], ◌∷◌, take, drop, eqb}

-- the elements of a list from index `start` on, `len` of them
unfoldable pub stretch : List ℕ → ℕ → ℕ → List ℕ
stretch l start len = take len (drop start l)

-- how many elements in front pass a test
unfoldable pub run : (ℕ → Bool) → List ℕ → ℕ
run p [] = 0
run p (b ∷ bs) = cond (p b) (suc (run p bs)) 0

abbrev pub is_not : ℕ → ℕ → Bool
is_not x b = not (eqb b x)

unfoldable pub same_bytes : List ℕ → List ℕ → Bool
same_bytes [] [] = true
same_bytes [] (y ∷ ys) = false
same_bytes (x ∷ xs) [] = false
same_bytes (x ∷ xs) (y ∷ ys) = eqb x y && same_bytes xs ys

abbrev pub is_empty : {A : Type 0} → List A → Bool
is_empty [] = true
is_empty (x ∷ xs) = false

-- a fact of each element: std's `AllByRecursion`, written out for a reader without std
abbrev pub All : {A : Type 0} → (A → Type 0) → List A → Type 0
All P [] = Unit
All P (x ∷ xs) = P x × All P xs
