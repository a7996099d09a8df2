-- The circuit check, node by node: it accepts where each node may stand at its place.
-- Assumes nothing.
use Rattle.std.proofs.Common.{ℕ, suc, ◌+◌, ◌<◌, ◌≤◌, ◌≡◌, false, List, [], ◌∷◌, length, refl, ◌∙◌, subst, arith, add-zero, Ok}
use Rattle.std.proofs.lemmas.Bool.{or_parts}
use Rattle.circuit.specs.declared.records.BoolWire.{BoolWire}
use Rattle.circuit.specs.declared.records.BoolNode.{BoolNode}
use Rattle.circuit.specs.Records.{wires_of}
use Rattle.circuit.specs.Check.{record_broken, not_below, some_not_below, check_wires, check_node, check_nodes, check_circuit}
use Rattle.circuit.proofs.Checks.{all_below_more, record_passed}
use Rattle.rewiring.specs.Rewiring.{nth_node}

-- a node that keeps the rules of a record and reads only nodes before place k
pub record Fits (k : ℕ) (n : BoolNode) : Type 0 where
  pub rules : record_broken n ≡ false
  pub earlier : some_not_below k (wires_of n) ≡ false

wires_checked : (m i : ℕ) (ws : List BoolWire) → some_not_below m ws ≡ false → some_not_below i ws ≡ false → check_wires m i ws ≡ Ok tt
unfolding check_wires
wires_checked m i [] p q = refl
wires_checked m i (w ∷ ws) p q =
    let a = or_parts (not_below m w) (some_not_below m ws) p in
    let b = or_parts (not_below i w) (some_not_below i ws) q in
    rw (a.0, b.0) (wires_checked m i ws a.1 b.1)

node_checked : (m i : ℕ) (n : BoolNode) → i ≤ m → Fits i n → check_node m i n ≡ Ok tt
node_checked m i n h f = record_passed m i n f.rules ∙ wires_checked m i (wires_of n) (all_below_more i m h (wires_of n) f.earlier) f.earlier

nodes_checked : (m i : ℕ) (ns : List BoolNode) → i + length ns ≤ m → ((j : ℕ) → j < length ns → Fits (i + j) (nth_node ns j)) → check_nodes m i ns ≡ Ok tt
unfolding check_nodes
nodes_checked m i [] h f = refl
nodes_checked m i (n ∷ ns) h f =
    rw (node_checked m i n (omega arith) (subst (λ (k : ℕ). Fits k n) (add-zero i) (f 0 (omega arith))))
    (nodes_checked m (suc i) ns (omega arith) (λ j l. let e : i + suc j ≡ suc i + j = omega arith in subst (λ (k : ℕ). Fits k (nth_node ns j)) e (f (suc j) (omega arith))))

pub accepted : (ns : List BoolNode) (os : List BoolWire) → ((k : ℕ) → k < length ns → Fits k (nth_node ns k)) → some_not_below (length ns) os ≡ false → check_circuit ns os ≡ Ok tt
unfolding check_circuit
accepted ns os f o =
    rw (nodes_checked (length ns) 0 ns (omega arith) (λ j l. let e : j ≡ 0 + j = omega arith in subst (λ (k : ℕ). Fits k (nth_node ns j)) e (f j l)), o)
