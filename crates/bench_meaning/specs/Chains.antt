-- The value of cells of two inputs that are chained left.
-- Assumes nothing.
use Rattle.std.specs.Prelude.{ℕ, List, [], ◌∷◌}
use Rattle.cells.specs.Cells.{cell_rule}
use Rattle.bench_gates.specs.declared.operations.Binary.{Binary}
use Rattle.bench_gates.specs.Operations.{truth_table, associative}

-- "step k (from 1) before the last .. isn't negated": the value of a step's cell
abbrev pub step_value : Binary → ℕ → ℕ → ℕ
step_value o v u = cell_rule (truth_table (associative o)) (v ∷ u ∷ [])

-- the value of the last cell
abbrev pub last_value : Binary → ℕ → ℕ → ℕ
last_value o v u = cell_rule (truth_table o) (v ∷ u ∷ [])

-- "two or more, chained left": v the value chained so far, then the values that are left
unfoldable pub chain_value : Binary → ℕ → List ℕ → ℕ
chain_value o v [] = v
chain_value o v (u ∷ []) = last_value o v u
chain_value o v (u ∷ w ∷ ws) = chain_value o (step_value o v u) (w ∷ ws)
