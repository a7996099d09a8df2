-- Examples, each computed from the definitions: unknown values in storage order, and `evaluate`.
-- Assumes nothing.
use mathlib.Core.Path.{◌≡◌, refl}
use mathlib.Core.Bool.{true}
use mathlib.Core.List.{List, [], ◌∷◌}
use Prim.Native.Nat.{ℕ}
use lib.ListN.{replicate}
use Rattle.laws.specs.Areas.{encodes}
use Rattle.circuit.specs.declared.records.BoolWire.{BoolWire}
use Rattle.circuit.specs.declared.records.BoolWire.TheVariants.{Const, Node}
use Rattle.circuit.specs.declared.records.Name.TheVariants.{Stretch}
use Rattle.circuit.specs.declared.records.BoolNode.{BoolNode}
use Rattle.circuit.specs.declared.records.Output.{Output}
use Rattle.circuit.specs.Records.{places, encode_node, encode_output, input_node, cell_node, node_from, is_cell_node, wires_of}
use Rattle.circuit.specs.Check.{cell_broken, record_broken, check_wires, check_node, check_nodes, check_circuit, whole, topological_fault}
use Rattle.cells.specs.Cells.{index_from}
use Rattle.values.specs.Values.{answer_of, values_from, outputs_from, storage_values, storage_outputs, entry_of, evaluated}
use Rattle.values.specs.Assignments.{input_count, wrong_assignment}
use Rattle.values.specs.Calls.{assignment_fault, room_fault, evaluate_fault, CallResult, after_call, evaluate_call}

abbrev pub n : ℕ → BoolWire
n k = Node (record { 0 = k })

abbrev input : BoolNode
input = input_node (Stretch 0 1)

abbrev cell : ℕ → List BoolWire → BoolNode
cell table ws = cell_node (Stretch 0 1) table ws

abbrev pub output : BoolWire → Output
output w = record { name = Stretch 0 1; wire = w }

-- a, b, t = a and not b, u = not a, y = t and u
abbrev pub listed : List BoolNode
listed = input ∷ input ∷ cell 4 (n 0 ∷ n 1 ∷ []) ∷ cell 1 (n 0 ∷ []) ∷ cell 8 (n 2 ∷ n 3 ∷ []) ∷ []

-- with a unknown, y is 0 where b is 1, and unknown where b is 0; the XOR of an unknown value with itself is unknown
pub unknowns : storage_outputs listed (n 4 ∷ []) (2 ∷ 1 ∷ []) ∷ storage_outputs listed (n 4 ∷ []) (2 ∷ 0 ∷ []) ∷ storage_outputs (input ∷ cell 6 (n 0 ∷ n 0 ∷ []) ∷ []) (n 1 ∷ []) (2 ∷ []) ∷ []
    ≡ (0 ∷ []) ∷ (2 ∷ []) ∷ (2 ∷ []) ∷ []
unfolding storage_outputs storage_values values_from outputs_from answer_of wires_of is_cell_node places input_node cell_node
unknowns = refl

-- `evaluate` of it, with the outputs y, t and 1: y is never 1; an unknown value is refused as 19
abbrev gives : List ℕ → CallResult
gives assignment = evaluate_call (encodes encode_node listed) (encodes encode_output (output (n 4) ∷ output (n 2) ∷ output (Const true) ∷ [])) assignment (replicate 5 255) (9 ∷ 9 ∷ 9 ∷ [])

pub evaluates : gives (0 ∷ 0 ∷ []) ∷ gives (1 ∷ 0 ∷ []) ∷ gives (2 ∷ 0 ∷ []) ∷ []
    ≡ record { number = 0; count = 3; store = replicate 5 0; outputs = 0 ∷ 0 ∷ 1 ∷ [] } ∷ record { number = 0; count = 3; store = replicate 5 0; outputs = 0 ∷ 1 ∷ 1 ∷ [] }
    ∷ record { number = 19; count = 0; store = replicate 5 0; outputs = 0 ∷ 0 ∷ 0 ∷ [] } ∷ []
unfolding evaluate_call after_call evaluate_fault assignment_fault room_fault wrong_assignment input_count topological_fault whole check_circuit check_nodes check_node check_wires record_broken cell_broken wires_of is_cell_node evaluated values_from outputs_from entry_of index_from places input_node cell_node node_from encode_node
evaluates = refl
