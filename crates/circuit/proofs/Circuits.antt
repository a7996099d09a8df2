-- The graph of a circuit's nodes, and that a circuit which the check accepts reads only earlier nodes.
-- Assumes nothing.
use Rattle.std.specs.Prelude.{Ok}
use Prim.Native.Nat.{ℕ, zero, suc, ◌<◌}
use mathlib.Core.Path.{◌≡◌, refl, sym, ap, ◌∙◌, subst}
use mathlib.Core.Logic.{◌⊎◌, inl, inr}
use mathlib.Core.Bool.{true, false, false≢true}
use mathlib.Core.List.{List, [], ◌∷◌}
use native.Mathlib.Omega.{arith}
use lib.Dec.{leb}
use lib.ListN.{length, get_or}
use borrow.Author.Tests.{leb-false}
use Rattle.std.proofs.lemmas.Bool.{or_parts}
use Rattle.laws.specs.Lists.{elem}
use Rattle.laws.proofs.Lists.{elem-cons-split}
use Rattle.circuit.specs.declared.records.BoolWire.{BoolWire}
use Rattle.circuit.specs.declared.records.BoolWire.TheVariants.{Const, Node}
use Rattle.circuit.specs.declared.records.BoolNode.{BoolNode}
use Rattle.circuit.specs.Records.{is_cell_node, wires_of, no_node}
use Rattle.circuit.specs.Check.{some_not_below, check_circuit}
use Rattle.graphs.specs.Graph.{Vertex, outside, is_cell, reads_of, Forward}
use Rattle.circuit.specs.Graph.{nodes_read, vertex_of, graph_of}
use Rattle.circuit.proofs.Checks.{Sounds, circuit-sound}
use Rattle.graphs.proofs.Graph.{cell_below}

outside_vertex : vertex_of no_node ≡ outside
unfolding vertex_of no_node outside is_cell_node wires_of nodes_read
outside_vertex = refl

pub vertex_at : (ns : List BoolNode) (k : ℕ) → get_or (graph_of ns) k outside ≡ vertex_of (get_or ns k no_node)
unfolding graph_of
vertex_at [] k = sym outside_vertex
vertex_at (n ∷ ns) zero = refl
vertex_at (n ∷ ns) (suc k) = vertex_at ns k

pub cell-at : (ns : List BoolNode) (k : ℕ) → is_cell (graph_of ns) k ≡ is_cell_node (get_or ns k no_node)
unfolding is_cell vertex_of
cell-at ns k = ap (λ (v : Vertex). v.cell) (vertex_at ns k)

pub reads_at : (ns : List BoolNode) (k : ℕ) → reads_of (graph_of ns) k ≡ nodes_read (wires_of (get_or ns k no_node))
unfolding reads_of vertex_of
reads_at ns k = ap (λ (v : Vertex). v.reads) (vertex_at ns k)

pub length_graph : (ns : List BoolNode) → length (graph_of ns) ≡ length ns
unfolding graph_of
length_graph [] = refl
length_graph (n ∷ ns) = ap suc (length_graph ns)

-- what is read is below k where every wire is
pub read_below : (k y : ℕ) (ws : List BoolWire) → some_not_below k ws ≡ false → elem y (nodes_read ws) ≡ true → y < k
unfolding nodes_read
read_below k y [] e h = absurd (false≢true h)
read_below k y (Const b ∷ ws) e h = read_below k y ws e h
read_below k y (Node n ∷ ws) e h = fork (or_parts (leb k n.0) (some_not_below k ws) e) (elem-cons-split y n.0 (nodes_read ws) h) (read_below k y ws)
  where
    fork : (leb k n.0 ≡ false) × (some_not_below k ws ≡ false) → (y ≡ n.0) ⊎ (elem y (nodes_read ws) ≡ true)
        → (some_not_below k ws ≡ false → elem y (nodes_read ws) ≡ true → y < k) → y < k
    fork p (inl q) later = omega (arith, leb-false k n.0 p.0)
    fork p (inr q) later = later p.1 q

-- every cell of a circuit that the check accepts reads only earlier nodes
pub sound_forward : (ns : List BoolNode) (os : List BoolWire) → Sounds ns os → Forward (graph_of ns)
sound_forward ns os s x y r =
    let inside : x < length ns = subst (λ (m : ℕ). x < m) (length_graph ns) (cell_below (graph_of ns) x r.reader) in
    read_below x y (wires_of (get_or ns x no_node)) (s.nodes x inside).earlier (ap (elem y) (sym (reads_at ns x)) ∙ r.among)

pub checked_forward : (ns : List BoolNode) (os : List BoolWire) → check_circuit ns os ≡ Ok tt → Forward (graph_of ns)
checked_forward ns os e = sound_forward ns os (circuit-sound ns os e)
