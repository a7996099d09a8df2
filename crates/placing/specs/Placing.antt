-- "again and again the earliest definition in the file whose inputs are all placed"
-- Assumes nothing.
use Rattle.std.specs.Prelude.{ℕ, zero, suc, Bool, not, cond, ◌&&◌, List, [], ◌∷◌, ◌++◌, map, length}
use Rattle.std.specs.List.{list_all}
use Rattle.std.proofs.Math.Option.{Option, none, some}
use Rattle.laws.specs.Lists.{elem}
use Rattle.placing.specs.Definitions.{Definition, definition_at, definers}

-- a word is placed once its definition is; an input of the circuit is from the start
unfoldable pub word_placed : List Definition → List ℕ → List ℕ → Bool
word_placed ds placed w = list_all (λ j. elem j placed) (definers ds w)

-- a definition that is not placed yet, and whose inputs are all placed
unfoldable pub can_place : List Definition → List ℕ → ℕ → Bool
can_place ds placed k = not (elem k placed) && list_all (word_placed ds placed) (definition_at ds k).inputs

-- the first of so many numbers, from k on, that passes a test
abbrev pub first_of : (ℕ → Bool) → ℕ → ℕ → Option ℕ
first_of p k zero = none
first_of p k (suc n) = cond (p k) (some k) (first_of p (suc k) n)

-- "the earliest definition in the file whose inputs are all placed"
unfoldable pub earliest : List Definition → List ℕ → Option ℕ
earliest ds placed = first_of (can_place ds placed) 0 (length ds)

abbrev pub place : Option ℕ → List ℕ → (List ℕ → List ℕ) → List ℕ
place none placed again = placed
place (some k) placed again = again (placed ++ k ∷ [])

-- "again and again", at most so many times
unfoldable pub placing_from : List Definition → ℕ → List ℕ → List ℕ
placing_from ds zero placed = placed
placing_from ds (suc n) placed = place (earliest ds placed) placed (placing_from ds n)

-- the numbers of the definitions in the order in which they are placed
unfoldable pub placing : List Definition → List ℕ
placing ds = placing_from ds (length ds) []

-- the definitions in that order
unfoldable pub placed_definitions : List Definition → List Definition
placed_definitions ds = map (definition_at ds) (placing ds)
