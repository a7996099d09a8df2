-- The graph of a circuit.
-- Assumes nothing.
use Rattle.std.specs.Prelude.{ℕ, List, [], ◌∷◌, map}
use Rattle.circuit.specs.declared.records.BoolWire.{BoolWire}
use Rattle.circuit.specs.declared.records.BoolWire.TheVariants.{Const, Node}
use Rattle.circuit.specs.declared.records.BoolNode.{BoolNode}
use Rattle.circuit.specs.Records.{is_cell_node, wires_of}
use Rattle.graphs.specs.Graph.{Vertex}

-- "It reads each node among its wires", once per read
unfoldable pub nodes_read : List BoolWire → List ℕ
nodes_read [] = []
nodes_read (Const b ∷ ws) = nodes_read ws
nodes_read (Node n ∷ ws) = n.0 ∷ nodes_read ws

unfoldable pub vertex_of : BoolNode → Vertex
vertex_of n = record { cell = is_cell_node n; reads = nodes_read (wires_of n) }

-- the graph of a circuit
unfoldable pub graph_of : List BoolNode → List Vertex
graph_of ns = map vertex_of ns
