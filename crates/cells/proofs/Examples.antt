-- Cells whose answers are known, computed from the rule.
-- Assumes nothing.
use mathlib.Core.Path.{◌≡◌, refl}
use mathlib.Core.List.{[], ◌∷◌, map}
use Prim.Native.Nat.{ℕ}
use Rattle.cells.specs.Cells.{cell_rule}

-- table 4 with a unknown: 0 where b is 1, unknown where b is 0; XOR of an unknown with itself is unknown; NOT of an unknown
pub starred : cell_rule 4 (2 ∷ 1 ∷ []) ∷ cell_rule 4 (2 ∷ 0 ∷ []) ∷ cell_rule 6 (2 ∷ 2 ∷ []) ∷ cell_rule 1 (2 ∷ []) ∷ [] ≡ 0 ∷ 2 ∷ 2 ∷ 2 ∷ []
starred = refl

-- AND 8, NAND 7, OR 14, NOR 1, XOR 6, XNOR 9: each on every known pair of values, the first the most significant
pub named : map (λ (t : ℕ). cell_rule t (0 ∷ 0 ∷ []) ∷ cell_rule t (0 ∷ 1 ∷ []) ∷ cell_rule t (1 ∷ 0 ∷ []) ∷ cell_rule t (1 ∷ 1 ∷ []) ∷ []) (8 ∷ 7 ∷ 14 ∷ 1 ∷ 6 ∷ 9 ∷ [])
    ≡ (0 ∷ 0 ∷ 0 ∷ 1 ∷ []) ∷ (1 ∷ 1 ∷ 1 ∷ 0 ∷ []) ∷ (0 ∷ 1 ∷ 1 ∷ 1 ∷ []) ∷ (1 ∷ 0 ∷ 0 ∷ 0 ∷ []) ∷ (0 ∷ 1 ∷ 1 ∷ 0 ∷ []) ∷ (1 ∷ 0 ∷ 0 ∷ 1 ∷ []) ∷ []
named = refl

-- three values: the majority of two known and one unknown
pub wider : cell_rule 232 (1 ∷ 2 ∷ 1 ∷ []) ∷ cell_rule 232 (1 ∷ 2 ∷ 0 ∷ []) ∷ [] ≡ 1 ∷ 2 ∷ []
wider = refl
