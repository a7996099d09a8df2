-- Worked examples of the document's meaning, by computation.
-- Assumes nothing.
use Prim.Native.Nat.{ℕ}
use mathlib.Core.Path.{◌≡◌, refl}
use mathlib.Core.List.{List, [], ◌∷◌, map}
use Rattle.laws.specs.Stretches.{stretch, same_bytes}
use Rattle.text.specs.Blanks.{is_blank}
use Rattle.text.specs.Words.{words, split_whitespace}
use Rattle.cover.specs.Directives.{inputs, outputs}
use Rattle.documents.specs.BlifDocument.{cube, cover_value, declared, cover_after, gates}

-- the four pairs of values
pairs : List (List ℕ)
pairs = (0 ∷ 0 ∷ []) ∷ (0 ∷ 1 ∷ []) ∷ (1 ∷ 0 ∷ []) ∷ (1 ∷ 1 ∷ []) ∷ []

-- rows `1- 1`, `-1 1` are the on-set of a disjunction, `1- 0`, `-1 0` its off-set
on_and_off : map (cover_value 1 ((49 ∷ 45 ∷ []) ∷ (45 ∷ 49 ∷ []) ∷ [])) pairs ∷ map (cover_value 0 ((49 ∷ 45 ∷ []) ∷ (45 ∷ 49 ∷ []) ∷ [])) pairs ∷ []
    ≡ (0 ∷ 1 ∷ 1 ∷ 1 ∷ []) ∷ (1 ∷ 0 ∷ 0 ∷ 0 ∷ []) ∷ []
unfolding cover_value cube pairs
on_and_off = refl

-- the constants: no rows, the row `1`, the row `0`
constants : cover_value 1 [] [] ∷ cover_value 1 ([] ∷ []) [] ∷ cover_value 0 ([] ∷ []) [] ∷ [] ≡ 0 ∷ 1 ∷ 0 ∷ []
unfolding cover_value cube
constants = refl

-- of three inputs: `1-0 1` holds where the first is 1 and the third 0
three : map (cover_value 1 ((49 ∷ 45 ∷ 48 ∷ []) ∷ [])) ((1 ∷ 0 ∷ 0 ∷ []) ∷ (1 ∷ 1 ∷ 0 ∷ []) ∷ (1 ∷ 1 ∷ 1 ∷ []) ∷ (0 ∷ 1 ∷ 0 ∷ []) ∷ []) ≡ 1 ∷ 1 ∷ 0 ∷ 0 ∷ []
unfolding cover_value cube
three = refl

-- .inputs a / .names a y / 0 1 / .outputs y: its signals and its gate
logical : List (List ℕ)
logical = (46 ∷ 105 ∷ 110 ∷ 112 ∷ 117 ∷ 116 ∷ 115 ∷ 32 ∷ 97 ∷ []) ∷ (46 ∷ 110 ∷ 97 ∷ 109 ∷ 101 ∷ 115 ∷ 32 ∷ 97 ∷ 32 ∷ 121 ∷ []) ∷ (48 ∷ 32 ∷ 49 ∷ []) ∷ (46 ∷ 111 ∷ 117 ∷ 116 ∷ 112 ∷ 117 ∷ 116 ∷ 115 ∷ 32 ∷ 121 ∷ []) ∷ []

signals : declared inputs logical ∷ declared outputs logical ∷ [] ≡ ((97 ∷ []) ∷ []) ∷ ((121 ∷ []) ∷ []) ∷ []
unfolding declared split_whitespace words is_blank stretch same_bytes logical
signals = refl

one-gate : gates logical ≡ record { signals = (97 ∷ []) ∷ (121 ∷ []) ∷ []; rows = ((48 ∷ []) ∷ (49 ∷ []) ∷ []) ∷ [] } ∷ []
unfolding gates cover_after split_whitespace words is_blank stretch same_bytes logical
one-gate = refl
