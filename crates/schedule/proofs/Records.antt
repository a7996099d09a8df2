-- The node records against the graph of the same records.
-- Assumes nothing.
use Rattle.std.proofs.Common.{ℕ, ◌<◌, ◌≡◌, false, List, length, get_or, ap, ◌∙◌, arith, zero-add}
use Rattle.std.proofs.lemmas.Bool.{or_parts}
use Rattle.laws.proofs.Lists.{none_at}
use Rattle.laws.proofs.Areas.{length_up}
use Rattle.laws.proofs.Storing.{up_at}
use Rattle.circuit.specs.declared.records.BoolWire.{BoolWire}
use Rattle.circuit.specs.declared.records.BoolNode.{BoolNode}
use Rattle.circuit.specs.Records.{node_at, nodes_of, is_cell_node, wires_of, no_node}
use Rattle.circuit.specs.Check.{some_not_below, record_broken, node_broken, circuit_broken}
use Rattle.graphs.specs.Graph.{is_cell, reads_of}
use Rattle.circuit.specs.Graph.{nodes_read}
use Rattle.circuit.proofs.Circuits.{cell-at, reads_at, length_graph}
use Rattle.schedule.specs.Call.{graph_in}
use Rattle.schedule.specs.Records.{Wired}

module _ (nodes : List ℕ) (n : ℕ) where
  pub length_in : length (graph_in nodes n) ≡ n
  unfolding graph_in
  length_in = length_graph (nodes_of nodes n) ∙ length_up (node_at nodes) 0 n

  node_is : (k : ℕ) → k < n → get_or (nodes_of nodes n) k no_node ≡ node_at nodes k
  node_is k h = up_at (node_at nodes) no_node 0 n k h ∙ ap (node_at nodes) (zero-add k)

  -- record k of n, and the graph's vertex
  pub cell-is : (k : ℕ) → k < n → is_cell (graph_in nodes n) k ≡ is_cell_node (node_at nodes k)
  unfolding graph_in
  cell-is k h = cell-at (nodes_of nodes n) k ∙ ap is_cell_node (node_is k h)

  pub reads_is : (k : ℕ) → k < n → reads_of (graph_in nodes n) k ≡ nodes_read (wires_of (node_at nodes k))
  unfolding graph_in
  reads_is k h = reads_at (nodes_of nodes n) k ∙ ap (λ (z : BoolNode). nodes_read (wires_of z)) (node_is k h)

  -- records that keep the rules have such wires
  pub sound_wired : (os : List BoolWire) → circuit_broken (nodes_of nodes n) os ≡ false → Wired nodes n
  unfolding circuit_broken node_broken
  sound_wired os e k h =
      let size : length (nodes_of nodes n) ≡ n = length_up (node_at nodes) 0 n in
      let none : node_broken (length (nodes_of nodes n)) (get_or (nodes_of nodes n) k no_node) ≡ false =
      none_at (node_broken (length (nodes_of nodes n))) (nodes_of nodes n) no_node k (omega (arith, size)) (or_parts _ _ e).0 in
      rw (size, node_is k h) at (or_parts (record_broken (get_or (nodes_of nodes n) k no_node)) (some_not_below (length (nodes_of nodes n)) (wires_of (get_or (nodes_of nodes n) k no_node))) none).1
