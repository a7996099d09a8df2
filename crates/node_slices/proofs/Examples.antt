-- Examples, each computed from the definitions.
-- Assumes nothing.
use mathlib.Core.Path.{◌≡◌, refl}
use mathlib.Core.List.{List, [], ◌∷◌}
use Prim.Native.Nat.{ℕ}
use Rattle.circuit.specs.declared.records.BoolWire.{BoolWire}
use Rattle.circuit.specs.declared.records.BoolWire.TheVariants.{Node}
use Rattle.circuit.specs.declared.records.Name.TheVariants.{Number}
use Rattle.circuit.specs.declared.records.BoolNode.{BoolNode}
use Rattle.circuit.specs.Refusals.{checked_number}
use Rattle.circuit.specs.Records.{places, input_node, cell_node, encode_output, is_cell_node, wires_of}
use Rattle.circuit.specs.Check.{cell_broken, record_broken, check_wires, check_node, check_nodes, check_circuit}
use Rattle.node_slices.specs.Slices.{slice_fault}

abbrev n : ℕ → BoolWire
n k = Node (record { 0 = k })

abbrev input : BoolNode
input = input_node (Number (record { 0 = 0 }))

abbrev cell : ℕ → BoolWire → BoolWire → BoolNode
cell t a b = cell_node (Number (record { 0 = 0 })) t (a ∷ b ∷ [])

abbrev words : BoolWire → List ℕ
words w = encode_output (record { name = Number (record { 0 = 0 }); wire = w })

abbrev check : List BoolNode → List ℕ → ℕ
check ns outputs = checked_number (slice_fault ns outputs)

-- accepted; no node at all; a wire past the nodes, then one ahead; one ahead, then one past; a cell that reads itself; a table's bit above its entries;
-- an output past the nodes; an output area that is no whole number of records, before a forward read
pub checked :
    check (input ∷ input ∷ cell 8 (n 0) (n 1) ∷ []) (words (n 2)) ∷ check [] [] ∷ check (input ∷ cell 8 (n 3) (n 2) ∷ input ∷ []) [] ∷ check (input ∷ cell 8 (n 2) (n 3) ∷ input ∷ []) []
    ∷ check (input ∷ cell 8 (n 0) (n 1) ∷ []) [] ∷ check (input ∷ cell 16 (n 0) (n 0) ∷ []) [] ∷ check (input ∷ []) (words (n 1)) ∷ check (cell 8 (n 0) (n 0) ∷ []) (0 ∷ []) ∷ []
    ≡ 0 ∷ 0 ∷ 15 ∷ 16 ∷ 16 ∷ 15 ∷ 15 ∷ 15 ∷ []
unfolding places input_node cell_node slice_fault check_circuit check_nodes check_node check_wires record_broken cell_broken wires_of is_cell_node
checked = refl
