-- The joined text as it is written, one raw line after the other: what each adds, and whether something is gathered after it.
-- Assumes nothing.
use Rattle.std.specs.Prelude.{ℕ, ◌+◌, ◌≡◌, Bool, cond, not, ◌&&◌, ◌||◌, Option, None, Some, List, [], ◌∷◌, ◌++◌, length, take}
use Rattle.laws.specs.Stretches.{is_empty}
use Rattle.text.specs.Lines.{kept}
use Rattle.text.specs.Joining.{continued, part}

-- a byte, if there is one
unfoldable pub one_or_none : Option ℕ → List ℕ
one_or_none None = []
one_or_none (Some b) = b ∷ []

-- what a kept line adds: a space if something is gathered, its part, and byte 10 unless it is continued
unfoldable pub added : Bool → List ℕ → List ℕ
added g l = cond g (32 ∷ []) [] ++ (part l ++ cond (not (continued l)) (10 ∷ []) [])

unfoldable pub still : Bool → List ℕ → Bool
still g l = continued l && (g || not (is_empty (part l)))

-- the same of a raw line
unfoldable pub added_by : Bool → List ℕ → List ℕ
added_by g raw = cond (is_empty (kept raw)) [] (added g (kept raw))

unfoldable pub still_by : Bool → List ℕ → Bool
still_by g raw = cond (is_empty (kept raw)) g (still g (kept raw))

unfoldable pub written : Bool → List (List ℕ) → List ℕ
written g [] = cond g (10 ∷ []) []
written g (raw ∷ rest) = added_by g raw ++ written (still_by g raw) rest

-- bytes that were put after the first `out` of an area
pub record Puts (old new : List ℕ) (out next : ℕ) (bytes : List ℕ) : Type 0 where
  pub front : take next new ≡ take out old ++ bytes
  pub count : next ≡ out + length bytes
