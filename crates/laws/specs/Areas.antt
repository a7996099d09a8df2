-- Areas of records of one width, one record after the other.
-- Assumes nothing.
use Rattle.std.specs.Prelude.{List, [], ◌∷◌, ◌++◌, ℕ, zero, suc, ◌+◌, ◌/◌, min, length, take, drop}
use Rattle.laws.specs.declared.TheConstants.{MOST_RECORDS}

-- the words of records, one after the other: std's `flat_map`, written out for a reader without std
abbrev pub encodes : {A : Type 0} → (A → List ℕ) → List A → List ℕ
encodes enc [] = []
encodes enc (x ∷ xs) = enc x ++ encodes enc xs

-- `words` in the place of as many elements of `l` from index `at` on
unfoldable pub stored : List ℕ → ℕ → List ℕ → List ℕ
stored l at words = take at l ++ words ++ drop (at + length words) l

-- f i, f (i + 1), .., m of them
abbrev pub up_from : {A : Type 0} → (ℕ → A) → ℕ → ℕ → List A
up_from f i zero = []
up_from f i (suc m) = f i ∷ up_from f (suc i) m

-- How many records of a width an area of so many words takes: as many as fit, and no more than an area is used for.
unfoldable pub capacity : ℕ → ℕ → ℕ
capacity width words = min (words / width) MOST_RECORDS
