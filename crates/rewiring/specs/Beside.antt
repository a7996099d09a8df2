-- A circuit beside itself: its nodes, and after them a second copy of its cells on the same inputs.
-- Assumes nothing.
use Rattle.std.specs.Prelude.{ℕ, ◌+◌, ◌<◌, ◌≡◌, if◌then◌else◌, List, ◌++◌, map, length, take, Ok}
use Rattle.std.specs.List.{filter, count_by}
use Rattle.circuit.specs.declared.records.BoolWire.{BoolWire}
use Rattle.circuit.specs.declared.records.BoolNode.{BoolNode}
use Rattle.circuit.specs.Records.{is_cell_node}
use Rattle.circuit.specs.Check.{check_circuit}
use Rattle.values.specs.Values.{signal_value, storage_values, storage_outputs}
use Rattle.rewiring.specs.Rewiring.{node_wire, nth_node, rewired, rewired_node}

-- What stands for node k in the second copy: for an input the input itself, and for a cell its copy.
-- The copies follow the nodes in the order of the cells.
abbrev pub second_wire : List BoolNode → ℕ → BoolWire
second_wire ns k =
    if is_cell_node (nth_node ns k)
    then node_wire (length ns + count_by is_cell_node (take k ns))
    else node_wire k

-- The two copies.
unfoldable pub doubled : List BoolNode → List BoolNode
doubled ns = ns ++ map (rewired_node (second_wire ns)) (filter is_cell_node ns)

-- What holds of the two copies of a circuit.
pub record IsDoubled (ns : List BoolNode) (os : List BoolWire) : Type 0 where
  -- they are a circuit, with the outputs of both
  pub accepted : check_circuit (doubled ns) (os ++ rewired (second_wire ns) os) ≡ Ok tt
  -- under any assignment each node has the value that it has in the circuit alone
  pub first : (x : List ℕ) (k : ℕ) → k < length ns
      → signal_value (storage_values (doubled ns) x) (node_wire k) ≡ signal_value (storage_values ns x) (node_wire k)
  -- and so has what stands for it in the second copy
  pub second : (x : List ℕ) (k : ℕ) → k < length ns
      → signal_value (storage_values (doubled ns) x) (second_wire ns k) ≡ signal_value (storage_values ns x) (node_wire k)
  -- so they give the circuit's outputs twice
  pub outputs : (x : List ℕ)
      → storage_outputs (doubled ns) (os ++ rewired (second_wire ns) os) x ≡ storage_outputs ns os x ++ storage_outputs ns os x

-- It holds for every circuit that the check accepts.
abbrev pub BesideItself : Type 0
BesideItself = (ns : List BoolNode) (os : List BoolWire) → check_circuit ns os ≡ Ok tt → IsDoubled ns os
