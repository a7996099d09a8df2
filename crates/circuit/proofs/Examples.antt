-- Examples, each computed from the definitions.
-- Assumes nothing.
use mathlib.Core.Path.{◌≡◌, refl}
use mathlib.Core.Bool.{true}
use mathlib.Core.List.{List, [], ◌∷◌, map}
use Prim.Native.Nat.{ℕ}
use lib.ListN.{replicate}
use Rattle.laws.specs.Areas.{encodes}
use Rattle.circuit.specs.declared.records.BoolWire.{BoolWire}
use Rattle.circuit.specs.declared.records.BoolWire.TheVariants.{Const, Node}
use Rattle.circuit.specs.declared.records.Name.TheVariants.{Stretch, Step, Number}
use Rattle.circuit.specs.declared.records.BoolNode.{BoolNode}
use Rattle.circuit.specs.declared.records.Output.{Output}
use Rattle.circuit.specs.Refusals.{checked_number}
use Rattle.circuit.specs.Records.{places, input_node, cell_node, node_from, encode_node, nodes_of, encode_output, outputs_of, is_cell_node, wires_of}
use Rattle.circuit.specs.Check.{cell_broken, record_broken, check_wires, check_node, check_nodes, check_circuit, node_broken, circuit_broken, whole, topological_fault, records_fault}
use Rattle.graphs.specs.Graph.{Vertex}
use Rattle.circuit.specs.Graph.{nodes_read, vertex_of, graph_of}

abbrev n : ℕ → BoolWire
n k = Node (record { 0 = k })

abbrev input : BoolNode
input = input_node (Stretch 0 1)

abbrev one : ℕ → BoolWire → BoolNode
one t a = cell_node (Stretch 2 1) t (a ∷ [])

abbrev two : ℕ → BoolWire → BoolWire → BoolNode
two t a b = cell_node (Step 4 1 1) t (a ∷ b ∷ [])

abbrev of : ℕ → ℕ → BoolNode
of kind count = record { kind = kind; count = count; table = 0; name = Number (record { 0 = 7 }); wires = places (Const true ∷ Const true ∷ []) }

abbrev output : BoolWire → Output
output w = record { name = Number (record { 0 = 3 }); wire = w }

-- the circuit of the worked example
abbrev listed : List BoolNode
listed = input ∷ input ∷ two 4 (n 0) (n 1) ∷ one 1 (n 0) ∷ two 8 (n 2) (n 3) ∷ []

-- records written and read back
pub nodes_back : nodes_of (encodes encode_node listed) 5 ≡ listed
unfolding encode_node node_from places input_node cell_node
nodes_back = refl

pub outputs_back : outputs_of (encodes encode_output (output (n 4) ∷ output (Const true) ∷ [])) 2 ≡ output (n 4) ∷ output (Const true) ∷ []
outputs_back = refl

-- a circuit's check, over its areas, by the refusal's number
abbrev check : List BoolNode → List Output → ℕ
check ns os = checked_number (topological_fault (encodes encode_node ns) (encodes encode_output os))

abbrev records : List BoolNode → List Output → ℕ
records ns os = checked_number (records_fault (encodes encode_node ns) (encodes encode_output os))

-- accepted; no node at all; a constant output
pub accepted : check listed (output (n 4) ∷ []) ∷ check [] [] ∷ check [] (output (Const true) ∷ []) ∷ [] ≡ 0 ∷ 0 ∷ 0 ∷ []
unfolding encode_node node_from places input_node cell_node topological_fault whole check_circuit check_nodes check_node check_wires record_broken cell_broken wires_of is_cell_node
accepted = refl

-- an unknown kind; no wires; three; a bit above the entries of one wire, and of two; a node wire past the nodes; an output wire past them
pub broken : check (of 3 1 ∷ []) [] ∷ check (of 0 1 ∷ []) [] ∷ check (of 2 0 ∷ []) [] ∷ check (of 2 3 ∷ []) [] ∷ check (one 4 (Const true) ∷ []) [] ∷ check (two 16 (Const true) (Const true) ∷ []) []
    ∷ check (one 1 (n 1) ∷ []) [] ∷ check listed (output (n 5) ∷ []) ∷ []
    ≡ 15 ∷ 15 ∷ 15 ∷ 15 ∷ 15 ∷ 15 ∷ 15 ∷ 15 ∷ []
unfolding encode_node node_from places input_node cell_node topological_fault whole check_circuit check_nodes check_node check_wires record_broken cell_broken wires_of is_cell_node
broken = refl

-- which comes first: a forward read before a later broken record (16) and after an earlier one (15); of one cell's wires the first fault, either way;
-- the table before the wires; the outputs last; a cell that reads itself
pub first_of_two : check (input ∷ one 1 (n 2) ∷ of 3 1 ∷ []) [] ∷ check (of 3 1 ∷ one 1 (n 2) ∷ input ∷ []) [] ∷ check (two 8 (n 1) (n 9) ∷ input ∷ []) [] ∷ check (two 8 (n 9) (n 1) ∷ input ∷ []) []
    ∷ check (one 4 (n 1) ∷ input ∷ []) [] ∷ check (one 1 (n 1) ∷ input ∷ []) (output (n 9) ∷ []) ∷ check (one 1 (n 0) ∷ []) [] ∷ []
    ≡ 16 ∷ 15 ∷ 16 ∷ 15 ∷ 15 ∷ 16 ∷ 16 ∷ []
unfolding encode_node node_from places input_node cell_node topological_fault whole check_circuit check_nodes check_node check_wires record_broken cell_broken wires_of is_cell_node
first_of_two = refl

-- a length that is no multiple of the width
pub partial : checked_number (topological_fault (replicate 8 0) []) ∷ checked_number (topological_fault [] (replicate 6 0)) ∷ []
    ≡ 15 ∷ 15 ∷ []
unfolding encode_node node_from places input_node cell_node topological_fault whole
partial = refl

-- the schedule's 15 looks at every record and output, and allows forward reads
pub every_record : records (input ∷ one 1 (n 2) ∷ of 3 1 ∷ []) [] ∷ records (one 1 (n 1) ∷ input ∷ []) [] ∷ records (one 1 (n 1) ∷ input ∷ []) (output (n 9) ∷ []) ∷ records (one 1 (n 2) ∷ input ∷ []) [] ∷ []
    ≡ 15 ∷ 0 ∷ 15 ∷ 15 ∷ []
unfolding encode_node node_from places input_node cell_node records_fault whole circuit_broken node_broken record_broken cell_broken wires_of is_cell_node
every_record = refl

-- AND(t,t) reads t twice; a constant is not read
pub reads : map (λ (v : Vertex). v.reads) (graph_of (two 8 (n 1) (n 1) ∷ two 6 (Const true) (n 0) ∷ input ∷ [])) ≡ (1 ∷ 1 ∷ []) ∷ (0 ∷ []) ∷ [] ∷ []
unfolding encode_node node_from places input_node cell_node graph_of vertex_of nodes_read wires_of is_cell_node
reads = refl
