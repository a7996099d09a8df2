-- Nodes that keep the rules at their places: what a reader shows of each node that it appends, and that the check then accepts.
-- Assumes nothing.
use Rattle.std.specs.Prelude.{Ok}
use mathlib.Core.Path.{◌≡◌, refl, subst}
use mathlib.Core.List.{List, [], ◌∷◌, ◌++◌}
use mathlib.Core.Bool.{false}
use Prim.Native.Nat.{ℕ, zero, suc, ◌+◌, ◌^◌, ◌≤◌, ◌<◌}
use native.Mathlib.Nat.{add-zero}
use native.Mathlib.Omega.{arith}
use borrow.Author.Tests.{le-leb, lt-leb}
use lib.ListN.{length, get_or}
use Rattle.std.proofs.lemmas.Bool.{or_parts}
use Rattle.circuit.specs.declared.records.BoolWire.{BoolWire}
use Rattle.circuit.specs.declared.records.BoolNode.{BoolNode}
use Rattle.circuit.specs.declared.records.Name.{Name}
use Rattle.circuit.specs.declared.records.TheConstants.{WIRES}
use Rattle.circuit.specs.Records.{wire_of, wires_of, is_cell_node, input_node, cell_node, no_node}
use Rattle.circuit.specs.Check.{cell_broken, record_broken, not_below, some_not_below, check_wires, check_node, check_nodes, check_circuit}
use Rattle.circuit.proofs.Checks.{all_below_more}
use Rattle.circuit.proofs.Places.{wires_of_cell}
use Rattle.circuit.specs.Circuits.{Padded}
use Rattle.circuit.proofs.Codes.{input_padded, cell_padded}

-- a node that keeps the rules and reads only nodes before place i, with a wire in each place of its record
pub record Sits (i : ℕ) (n : BoolNode) : Type 0 where
  pub padded : Padded n
  pub rules : record_broken n ≡ false
  pub earlier : some_not_below i (wires_of n) ≡ false

-- each node of a list, the first at place i
abbrev pub AllSit : ℕ → List BoolNode → Type 0
AllSit i [] = Unit
AllSit i (n ∷ ns) = Sits i n × AllSit (suc i) ns

pub sit_more : (i : ℕ) (ns : List BoolNode) (n : BoolNode) → AllSit i ns → Sits (i + length ns) n → AllSit i (ns ++ (n ∷ []))
sit_more i [] n h s = (subst (λ (k : ℕ). Sits k n) (add-zero i) s, tt)
sit_more i (x ∷ xs) n h s = (h.0, sit_more (suc i) xs n h.1 (subst (λ (k : ℕ). Sits k n) (omega arith) s))

pub each_padded : (i : ℕ) (ns : List BoolNode) → AllSit i ns → (k : ℕ) → k < length ns → Padded (get_or ns k no_node)
each_padded i [] h k l = absurd (omega arith)
each_padded i (n ∷ ns) h zero l = h.0.padded
each_padded i (n ∷ ns) h (suc k) l = each_padded (suc i) ns h.1 k (omega arith)

-- ---- the check accepts them

wires_checked : (m i : ℕ) (ws : List BoolWire) → some_not_below m ws ≡ false → some_not_below i ws ≡ false → check_wires m i ws ≡ Ok tt
unfolding check_wires
wires_checked m i [] p q = refl
wires_checked m i (w ∷ ws) p q =
    let a = or_parts (not_below m w) (some_not_below m ws) p in
    let b = or_parts (not_below i w) (some_not_below i ws) q in
    rw (a.0, b.0) (wires_checked m i ws a.1 b.1)

nodes_checked : (m i : ℕ) (ns : List BoolNode) → i + length ns ≤ m → AllSit i ns → check_nodes m i ns ≡ Ok tt
unfolding check_nodes check_node
nodes_checked m i [] h s = refl
nodes_checked m i (n ∷ ns) h s =
    let inside = all_below_more i m (omega arith) (wires_of n) s.0.earlier in
    rw (s.0.rules, wires_checked m i (wires_of n) inside s.0.earlier) (nodes_checked m (suc i) ns (omega arith) s.1)

pub circuit_checked : (ns : List BoolNode) (os : List BoolWire) → AllSit 0 ns → some_not_below (length ns) os ≡ false → check_circuit ns os ≡ Ok tt
unfolding check_circuit
circuit_checked ns os s o = rw (nodes_checked (length ns) 0 ns (omega arith) s, o)

-- ---- the nodes that readers make

-- a wire's word below m + 2 is a constant's or that of a node below m
pub word_below : (m x : ℕ) → x < m + 2 → not_below m (wire_of x) ≡ false
word_below m zero h = refl
word_below m (suc zero) h = refl
word_below m (suc (suc k)) h = lt-leb m k (omega arith)

pub input_sits : (i : ℕ) (name : Name) → Sits i (input_node name)
unfolding record_broken input_node wires_of is_cell_node
input_sits i name = record { padded = input_padded name; rules = refl; earlier = refl }

-- a cell on wires of earlier nodes, of which a record has places for each, with a table of no more entries than they pick
pub cell_sits : (i : ℕ) (name : Name) (t : ℕ) (ws : List BoolWire) → 1 ≤ length ws → length ws ≤ WIRES → t < 2 ^ 2 ^ length ws → some_not_below i ws ≡ false
    → Sits i (cell_node name t ws)
unfolding record_broken cell_broken cell_node
cell_sits i name t ws l h b e = record {
  padded = cell_padded name t ws;
  rules = rw (le-leb 1 (length ws) l, le-leb (length ws) WIRES h) (lt-leb (2 ^ 2 ^ length ws) t b);
  earlier = rw (wires_of_cell name t ws h, e);
}
