-- An assignment of values to the inputs of a circuit: one for each, in storage order.
-- Assumes nothing.
use Rattle.std.specs.Prelude.{List, [], ◌∷◌, Bool, if◌then◌else◌, not, ◌||◌, ℕ, suc, ◌==◌, ltb, length}
use Rattle.laws.specs.Lists.{some}
use Rattle.circuit.specs.declared.records.BoolNode.{BoolNode}
use Rattle.circuit.specs.Records.{is_cell_node}

-- The number of inputs.
unfoldable pub input_count : List BoolNode → ℕ
input_count [] = 0
input_count (n ∷ ns) = if is_cell_node n then input_count ns else suc (input_count ns)

-- The assignment has not one value for each input, or a value above the top.
unfoldable pub wrong_assignment : ℕ → List BoolNode → List ℕ → Bool
wrong_assignment top ns assignment = not (length assignment == input_count ns) || some (ltb top) assignment
