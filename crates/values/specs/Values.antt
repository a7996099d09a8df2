-- The values of a circuit's nodes in storage order, and of its outputs: they need no value store and no list of cells. And those of `evaluate`.
-- A value is 0, 1 or 2, the unknown.
-- Assumes nothing.
use Rattle.std.specs.Prelude.{List, [], ◌∷◌, ◌++◌, map, if◌then◌else◌, ℕ, suc, get_or}
use Rattle.circuit.specs.declared.records.BoolWire.{BoolWire}
use Rattle.circuit.specs.declared.records.BoolWire.TheVariants.{Const, Node}
use Rattle.circuit.specs.declared.records.BoolNode.{BoolNode}
use Rattle.circuit.specs.Records.{is_cell_node, wires_of}
use Rattle.cells.specs.Cells.{entry, index_from, cell_rule}

-- The value of a wire where the nodes have these values: a constant's own, a node's in the list.
abbrev pub signal_value : List ℕ → BoolWire → ℕ
signal_value values (Const b) = if b then 1 else 0
signal_value values (Node n) = get_or values n.0 0

-- A cell's answer: the cell rule's, on the values of its wires.
unfoldable pub answer_of : List ℕ → BoolNode → ℕ
answer_of values n = cell_rule n.table (map (signal_value values) (wires_of n))

-- From node 0 up, an input has its assigned value, and a cell what a rule gives on the values before it. Here p inputs are passed, the values before are known,
-- and these nodes are left.
unfoldable pub values_from : (List ℕ → BoolNode → ℕ) → List ℕ → ℕ → List ℕ → List BoolNode → List ℕ
values_from rule assignment p values [] = values
values_from rule assignment p values (n ∷ ns) =
    if is_cell_node n then values_from rule assignment p (values ++ rule values n ∷ []) ns
    else values_from rule assignment (suc p) (values ++ get_or assignment p 0 ∷ []) ns

-- An output has the value of its wire.
unfoldable pub outputs_from : List ℕ → List BoolWire → List ℕ
outputs_from values wires = map (signal_value values) wires

-- The values in storage order, each cell's by the cell rule.
unfoldable pub storage_values : List BoolNode → List ℕ → List ℕ
storage_values ns assignment = values_from answer_of assignment 0 [] ns

-- The outputs by them.
unfoldable pub storage_outputs : List BoolNode → List BoolWire → List ℕ → List ℕ
storage_outputs ns wires assignment = outputs_from (storage_values ns assignment) wires

-- A cell's value without unknowns: the table's entry at the index that the values of its wires pick.
unfoldable pub entry_of : List ℕ → BoolNode → ℕ
entry_of values n = entry n.table (index_from 0 (map (signal_value values) (wires_of n)))

-- The outputs that `evaluate` gives.
unfoldable pub evaluated : List BoolNode → List BoolWire → List ℕ → List ℕ
evaluated ns wires assignment = outputs_from (values_from entry_of assignment 0 [] ns) wires
