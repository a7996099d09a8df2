-- Wires rewired, by the nodes that they read.
-- Assumes nothing.
use Rattle.std.proofs.Common.{ℕ, ◌<◌, ◌≡◌, false, List, [], ◌∷◌, map, get_or, refl, sym, ap, ap₂, ◌∙◌}
use borrow.Author.Tests.{lt-leb}
use Rattle.laws.proofs.Lists.{elem_here, elem-later}
use Rattle.circuit.specs.declared.records.BoolWire.{BoolWire}
use Rattle.circuit.specs.declared.records.BoolWire.TheVariants.{Const, Node}
use Rattle.circuit.specs.Check.{not_below, some_not_below}
use Rattle.circuit.specs.Graph.{nodes_read}
use Rattle.values.specs.Values.{signal_value}
use Rattle.rewiring.specs.Rewiring.{node_wire, ReadBy, rewired}

-- values in two circuits are the same where those of the nodes read are
pub rewired_values : (A B : List ℕ) (σ : ℕ → BoolWire) (ws : List BoolWire) → ((j : ℕ) → ReadBy ws j → signal_value B (σ j) ≡ get_or A j 0)
    → map (signal_value B) (rewired σ ws) ≡ map (signal_value A) ws
unfolding nodes_read
rewired_values A B σ [] h = refl
rewired_values A B σ (Const b ∷ ws) h = ap (λ (l : List ℕ). signal_value A (Const b) ∷ l) (rewired_values A B σ ws h)
rewired_values A B σ (Node n ∷ ws) h =
    ap₂ (λ (v : ℕ) (l : List ℕ). v ∷ l) (h n.0 (elem_here n.0 n.0 (nodes_read ws) refl)) (rewired_values A B σ ws (λ j r. h j (elem-later j n.0 (nodes_read ws) r)))

-- wires are below m where those of the nodes read are
pub rewired_below : (m : ℕ) (σ : ℕ → BoolWire) (ws : List BoolWire) → ((j : ℕ) → ReadBy ws j → not_below m (σ j) ≡ false) → some_not_below m (rewired σ ws) ≡ false
unfolding nodes_read
rewired_below m σ [] h = refl
rewired_below m σ (Const b ∷ ws) h = rewired_below m σ ws h
rewired_below m σ (Node n ∷ ws) h = rw (h n.0 (elem_here n.0 n.0 (nodes_read ws) refl)) (rewired_below m σ ws (λ j r. h j (elem-later j n.0 (nodes_read ws) r)))

-- wires are what they were where those of the nodes read are
pub rewired_same : (σ : ℕ → BoolWire) (ws : List BoolWire) → ((j : ℕ) → ReadBy ws j → σ j ≡ node_wire j) → rewired σ ws ≡ ws
unfolding nodes_read
rewired_same σ [] h = refl
rewired_same σ (Const b ∷ ws) h = ap (λ (l : List BoolWire). Const b ∷ l) (rewired_same σ ws h)
rewired_same σ (Node n ∷ ws) h =
    ap₂ (λ (w : BoolWire) (l : List BoolWire). w ∷ l) (h n.0 (elem_here n.0 n.0 (nodes_read ws) refl)) (rewired_same σ ws (λ j r. h j (elem-later j n.0 (nodes_read ws) r)))

-- wires that read only nodes below m are below m
pub reads_below : (m : ℕ) (ws : List BoolWire) → ((j : ℕ) → ReadBy ws j → j < m) → some_not_below m ws ≡ false
reads_below m ws h = ap (some_not_below m) (sym (rewired_same node_wire ws (λ j r. refl))) ∙ rewired_below m node_wire ws (λ j r. lt-leb m j (h j r))
