-- One circuit within another: a wire there stands for each of its nodes. It need not be a node of its own, since what feeds an input may be
-- a constant or an output of something else. What wires and nodes then become, and what makes their values the same.
-- Assumes nothing.
use Rattle.std.specs.Prelude.{ℕ, ◌<◌, ◌≡◌, Bool, true, false, if◌then◌else◌, IsTrue, List, map, slice_index_or}
use Rattle.laws.specs.Lists.{elem}
use Rattle.circuit.specs.declared.records.BoolWire.{BoolWire}
use Rattle.circuit.specs.declared.records.BoolWire.TheVariants.{Const, Node}
use Rattle.circuit.specs.declared.records.BoolNode.{BoolNode}
use Rattle.circuit.specs.Records.{is_cell_node, wires_of, no_node, no_wire, input_node, cell_node}
use Rattle.circuit.specs.Graph.{nodes_read}
use Rattle.cells.specs.Cells.{cell_rule}
use Rattle.values.specs.Values.{signal_value, outputs_from, storage_values, storage_outputs}

-- The wire of node k.
abbrev pub node_wire : ℕ → BoolWire
node_wire k = Node (record { 0 = k })

-- Node k of a circuit; past its end, a node of no kind.
abbrev pub nth_node : List BoolNode → ℕ → BoolNode
nth_node ns k = slice_index_or ns k no_node

-- Some of the wires is node j's.
abbrev pub ReadBy : List BoolWire → ℕ → Type 0
ReadBy ws j = elem j (nodes_read ws) ≡ true

-- ---- what wires and nodes become

-- A wire, where σ names what stands for each node: a constant stays, and a node's wire becomes what stands for the node.
abbrev pub rewire : (ℕ → BoolWire) → BoolWire → BoolWire
rewire σ (Const b) = Const b
rewire σ (Node n) = σ n.0

-- Each of some wires.
abbrev pub rewired : (ℕ → BoolWire) → List BoolWire → List BoolWire
rewired σ ws = map (rewire σ) ws

-- A node with its name and table as they were, and its wires rewired.
abbrev pub rewired_node : (ℕ → BoolWire) → BoolNode → BoolNode
rewired_node σ n =
    if is_cell_node n then cell_node n.name n.table (rewired σ (wires_of n)) else input_node n.name

-- What stands for each node, by a list of wires: past its end a constant.
abbrev pub listed : List BoolWire → ℕ → BoolWire
listed standing k = slice_index_or standing k no_wire

-- Some wires, rewired by such a list.
abbrev pub rewired_by : List BoolWire → List BoolWire → List BoolWire
rewired_by standing ws = rewired (listed standing) ws

-- ---- what makes the values the same

-- In a circuit whose nodes have `values`, wires stand for the nodes D of the circuit `ns` under the assignment x.
-- Nothing is asked of other nodes.
pub record Stands (ns : List BoolNode) (x values : List ℕ) (D : ℕ → Type 0) (σ : ℕ → BoolWire) : Type 0 where
  -- each of the nodes reads only earlier ones among them
  pub reads : (k j : ℕ) → D k → ReadBy (wires_of (nth_node ns k)) j → D j × (j < k)
  -- what stands for an input has the input's value
  pub input : (k : ℕ) → D k → is_cell_node (nth_node ns k) ≡ false
      → signal_value values (σ k) ≡ signal_value (storage_values ns x) (node_wire k)
  -- what stands for a cell has the answer of the cell's table on the cell's wires, rewired
  pub cell : (k : ℕ) → D k → is_cell_node (nth_node ns k) ≡ true
      → signal_value values (σ k)
      ≡ cell_rule (nth_node ns k).table (map (signal_value values) (rewired σ (wires_of (nth_node ns k))))

-- What stands for a node has the node's value, unknown or not: for the nodes that pass a test.
abbrev pub RewiredValues : Type 0
RewiredValues = (ns : List BoolNode) (x values : List ℕ) (among : ℕ → Bool) (σ : ℕ → BoolWire)
    → Stands ns x values (λ k. IsTrue (among k)) σ
    → (k : ℕ) → IsTrue (among k) → signal_value values (σ k) ≡ signal_value (storage_values ns x) (node_wire k)

-- So outputs that are such nodes' wires or constants are given there as they are in the circuit alone.
abbrev pub RewiredOutputs : Type 0
RewiredOutputs = (ns : List BoolNode) (x values : List ℕ) (among : ℕ → Bool) (σ : ℕ → BoolWire)
    → Stands ns x values (λ k. IsTrue (among k)) σ
    → (os : List BoolWire) → ((j : ℕ) → ReadBy os j → IsTrue (among j))
    → outputs_from values (rewired σ os) ≡ storage_outputs ns os x
