-- A node bypassed: the cells that read it read another wire instead, a constant or an earlier node's.
-- So an alias is taken out of a circuit, and so a constant is fed in an input's place.
-- Assumes nothing.
use Rattle.std.specs.Prelude.{ℕ, ◌≡◌, ◌==◌, false, if◌then◌else◌, List, map, Ok}
use Rattle.circuit.specs.declared.records.BoolWire.{BoolWire}
use Rattle.circuit.specs.declared.records.BoolNode.{BoolNode}
use Rattle.circuit.specs.Check.{not_below, check_circuit}
use Rattle.values.specs.Values.{signal_value, storage_values}
use Rattle.rewiring.specs.Rewiring.{node_wire, rewired_node}

-- Wire w stands for node k, and for each other node its own.
abbrev pub instead : ℕ → BoolWire → ℕ → BoolWire
instead k w j = if j == k then w else node_wire j

-- The cells that read node k read wire w, and the rest is as it was.
unfoldable pub bypassed : List BoolNode → ℕ → BoolWire → List BoolNode
bypassed ns k w = map (rewired_node (instead k w)) ns

-- What holds where node k may be bypassed by wire w.
pub record IsBypassed (ns : List BoolNode) (os : List BoolWire) (k : ℕ) (w : BoolWire) : Type 0 where
  -- it is still a circuit, with the same outputs
  pub accepted : check_circuit (bypassed ns k w) os ≡ Ok tt
  -- under each assignment that gives the wire the node's value, every node keeps its value
  pub same : (x : List ℕ) → signal_value (storage_values ns x) w ≡ signal_value (storage_values ns x) (node_wire k)
      → storage_values (bypassed ns k w) x ≡ storage_values ns x

-- It holds in every circuit that the check accepts, for each node and each wire that is a constant or an earlier node's.
abbrev pub NodeBypassed : Type 0
NodeBypassed = (ns : List BoolNode) (os : List BoolWire) (k : ℕ) (w : BoolWire)
    → check_circuit ns os ≡ Ok tt → not_below k w ≡ false → IsBypassed ns os k w
