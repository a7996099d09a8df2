-- The circuit rules, and the answers of the two checks of a circuit.
-- Assumes nothing.
use Rattle.std.specs.Prelude.{List, [], ◌∷◌, Bool, true, false, if◌then◌else◌, not, ◌&&◌, ◌||◌, ℕ, suc, ◌^◌, ◌/◌, ◌%◌, ◌==◌, leb, length, Err, Ok}
use Rattle.laws.specs.Lists.{some}
use Rattle.circuit.specs.declared.refusals.Refusal.{Refusal}
use Rattle.circuit.specs.declared.refusals.Refusal.TheVariants.{Broken, NotEarlier}
use Rattle.circuit.specs.Refusals.{Checked}
use Rattle.circuit.specs.declared.records.BoolWire.{BoolWire}
use Rattle.circuit.specs.declared.records.BoolWire.TheVariants.{Const, Node}
use Rattle.circuit.specs.declared.records.BoolNode.{BoolNode}
use Rattle.circuit.specs.Refusals.{refuse_if, first_fault}
use Rattle.circuit.specs.declared.records.TheConstants.{WIRES, INPUT, CELL, NODE_WORDS, OUTPUT_WORDS}
use Rattle.circuit.specs.Records.{nodes_of, output_wires, wires_of}

-- A cell is broken that has no wire or more than a record has places for, or a table with bits above the entries of its wires.
unfoldable pub cell_broken : BoolNode → Bool
cell_broken n = if leb 1 n.count && leb n.count WIRES then leb (2 ^ 2 ^ n.count) n.table else true

-- A record is broken that is of no kind, or a broken cell's.
unfoldable pub record_broken : BoolNode → Bool
unfolding cell_broken
record_broken n = if n.kind == INPUT then false else if n.kind == CELL then cell_broken n else true

-- The wire is a node's that is not below k.
abbrev pub not_below : ℕ → BoolWire → Bool
not_below k (Const b) = false
not_below k (Node n) = leb k n.0

-- Some wire is.
abbrev pub some_not_below : ℕ → List BoolWire → Bool
some_not_below k ws = some (not_below k) ws

-- What a wire that is not earlier is refused with, in a circuit of m nodes.
abbrev pub wire_refusal : ℕ → BoolWire → Refusal
wire_refusal m w = if not_below m w then Broken else NotEarlier

-- The wires of node i of m in turn: the first that is no earlier node's is the fault, Broken where it is no node's of the circuit at all.
unfoldable pub check_wires : ℕ → ℕ → List BoolWire → Checked
check_wires m i [] = Ok tt
check_wires m i (w ∷ ws) =
    if not_below m w then Err Broken else if not_below i w then Err NotEarlier else check_wires m i ws

-- A node: its record, then its wires.
unfoldable pub check_node : ℕ → ℕ → BoolNode → Checked
check_node m i n = first_fault (refuse_if (record_broken n) Broken) (check_wires m i (wires_of n))

-- Nodes i, i + 1, .. of m: the first fault.
unfoldable pub check_nodes : ℕ → ℕ → List BoolNode → Checked
check_nodes m i [] = Ok tt
check_nodes m i (n ∷ ns) = first_fault (check_node m i n) (check_nodes m (suc i) ns)

-- The nodes, then the output wires.
unfoldable pub check_circuit : List BoolNode → List BoolWire → Checked
check_circuit ns os = first_fault (check_nodes (length ns) 0 ns) (refuse_if (some_not_below (length ns) os) Broken)

-- Where forward reads are allowed, every record and every output is looked at: a node in a circuit of m.
unfoldable pub node_broken : ℕ → BoolNode → Bool
node_broken m n = record_broken n || some_not_below m (wires_of n)

abbrev pub some_broken : ℕ → List BoolNode → Bool
some_broken m ns = some (node_broken m) ns

unfoldable pub circuit_broken : List BoolNode → List BoolWire → Bool
circuit_broken ns os = some_broken (length ns) ns || some_not_below (length ns) os

-- ---- over the areas: slices that hold a circuit's records and nothing else

-- Areas that end in a part of a record hold no circuit.
unfoldable pub whole : List ℕ → List ℕ → Bool
whole nodes outputs = length nodes % NODE_WORDS == 0 && length outputs % OUTPUT_WORDS == 0

abbrev pub nodes_in : List ℕ → List BoolNode
nodes_in nodes = nodes_of nodes (length nodes / NODE_WORDS)

abbrev pub wires_in : List ℕ → List BoolWire
wires_in outputs = output_wires outputs (length outputs / OUTPUT_WORDS)

-- The circuit check over the areas: Broken and NotEarlier.
unfoldable pub topological_fault : List ℕ → List ℕ → Checked
topological_fault nodes outputs =
    first_fault (refuse_if (not (whole nodes outputs)) Broken) (check_circuit (nodes_in nodes) (wires_in outputs))

-- The rules alone over the areas.
unfoldable pub records_fault : List ℕ → List ℕ → Checked
records_fault nodes outputs =
    first_fault (refuse_if (not (whole nodes outputs)) Broken)
    (refuse_if (circuit_broken (nodes_in nodes) (wires_in outputs)) Broken)
