-- The node records as a graph: what each read reads, and what ordering asks of them.
-- Assumes nothing.
use Rattle.std.specs.Prelude.{ℕ, suc, ◌-◌, ◌*◌, ◌/◌, ◌%◌, ◌≤◌, ◌<◌, ◌≡◌, false, if◌then◌else◌, List, length, get_or}
use Rattle.ordering.specs.declared.widths.TheConstants.{KEY_WORDS, READY_WORDS}
use Rattle.graphs.specs.declared.TheConstants.{READS}
use Rattle.circuit.specs.declared.records.BoolWire.{BoolWire}
use Rattle.circuit.specs.declared.records.BoolWire.TheVariants.{Const, Node}
use Rattle.circuit.specs.declared.records.TheConstants.{NODE_WORDS}
use Rattle.circuit.specs.Records.{node_at, wires_of, is_cell_node, no_wire}
use Rattle.circuit.specs.Check.{some_not_below}

-- The wire at a position of node k; a constant where there is no such wire.
abbrev pub wire_at : List ℕ → ℕ → ℕ → BoolWire
wire_at nodes k position = get_or (wires_of (node_at nodes k)) position no_wire

-- Every wire of the first n nodes is a constant or one of them.
abbrev pub Wired : List ℕ → ℕ → Type 0
Wired nodes n = (k : ℕ) → k < n → some_not_below n (wires_of (node_at nodes k)) ≡ false

-- The cell that a wire reads: 0 where it reads none, x + 1 for the cell x.
abbrev pub cell_read : List ℕ → BoolWire → ℕ
cell_read nodes (Const b) = 0
cell_read nodes (Node x) = if is_cell_node (node_at nodes x.0) then suc x.0 else 0

-- What a read reads; read (node, position) is number READS × node + 1 + position.
unfoldable pub source_of : List ℕ → ℕ → ℕ
source_of nodes e = cell_read nodes (wire_at nodes ((e - 1) / READS) ((e - 1) % READS))

-- What ordering asks of the areas of a call that is not refused before.
pub record Orderable (nodes : List ℕ) (keys window ready successors order : ℕ) : Type 0 where
  pub wired : Wired nodes (length nodes / NODE_WORDS)
  pub window_is : 1 ≤ window
  pub keys_are : keys ≡ KEY_WORDS * (length nodes / NODE_WORDS)
  pub ready_room : READY_WORDS * (length nodes / NODE_WORDS) ≤ ready
  pub successor_room : READS * (length nodes / NODE_WORDS) < successors
  pub order_room : length nodes / NODE_WORDS ≤ order
