-- A small circuit beside itself and with nodes bypassed, computed from the definitions.
-- Assumes nothing.
use Rattle.std.specs.Prelude.{◌≡◌, true, List, [], ◌∷◌}
use mathlib.Core.Path.{refl}
use Rattle.circuit.specs.declared.records.BoolWire.{BoolWire}
use Rattle.circuit.specs.declared.records.BoolWire.TheVariants.{Const}
use Rattle.circuit.specs.declared.records.BoolNode.{BoolNode}
use Rattle.circuit.specs.declared.records.Name.TheVariants.{Stretch}
use Rattle.circuit.specs.Records.{is_cell_node, wires_of, places, input_node, cell_node}
use Rattle.values.specs.Values.{answer_of, values_from, storage_values}
use Rattle.rewiring.specs.Rewiring.{node_wire}
use Rattle.rewiring.specs.Beside.{doubled}
use Rattle.rewiring.specs.Bypass.{bypassed}

abbrev input : BoolNode
input = input_node (Stretch 0 1)

-- the cell that passes a wire on, and the AND of two wires
abbrev pass : BoolWire → BoolNode
pass w = cell_node (Stretch 2 1) 2 (w ∷ [])

abbrev both : BoolWire → BoolWire → BoolNode
both a b = cell_node (Stretch 4 1) 8 (a ∷ b ∷ [])

-- a, b, t = a, y = t and b
abbrev passing : List BoolNode
passing = input ∷ input ∷ pass (node_wire 0) ∷ both (node_wire 2) (node_wire 1) ∷ []

-- the second copy has t and y again, on the same a and b
pub beside : doubled passing ≡ input ∷ input ∷ pass (node_wire 0) ∷ both (node_wire 2) (node_wire 1) ∷ pass (node_wire 0) ∷ both (node_wire 4) (node_wire 1) ∷ []
unfolding doubled is_cell_node wires_of places input_node cell_node
beside = refl

-- the alias t taken out: y reads a
pub without_alias : bypassed passing 2 (node_wire 0) ≡ input ∷ input ∷ pass (node_wire 0) ∷ both (node_wire 0) (node_wire 1) ∷ []
unfolding bypassed is_cell_node wires_of places input_node cell_node
without_alias = refl

-- constant 1 fed to what b fed
pub constant_fed : bypassed passing 1 (Const true) ≡ input ∷ input ∷ pass (node_wire 0) ∷ both (node_wire 2) (Const true) ∷ []
unfolding bypassed is_cell_node wires_of places input_node cell_node
constant_fed = refl

-- where a is unknown and b is 1, t and y are unknown, before and after
pub unknown : storage_values passing (2 ∷ 1 ∷ []) ∷ storage_values (bypassed passing 1 (Const true)) (2 ∷ 1 ∷ []) ∷ [] ≡ (2 ∷ 1 ∷ 2 ∷ 2 ∷ []) ∷ (2 ∷ 1 ∷ 2 ∷ 2 ∷ []) ∷ []
unfolding bypassed storage_values values_from answer_of is_cell_node wires_of places input_node cell_node
unknown = refl
