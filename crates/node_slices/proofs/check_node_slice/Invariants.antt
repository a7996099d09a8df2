use Rattle.std.proofs.Common.{◌≡◌, ◌≤◌, length, drop}
use Rattle.std.specs.Prelude.{Ok}
use Rattle.circuit.specs.Records.{wires_of}
use Rattle.circuit.specs.Check.{check_wires, check_nodes}
use Rattle.node_slices.proofs.Slices.{left}
use Rattle.node_slices.proofs.check_node_slice.Given as goal

abbrev pub invariant-scan : goal.invariant-scan
invariant-scan l = (check_nodes (length l.nodes) 0 l.nodes ≡ left l.nodes (length l.nodes) l.i) × (l.i ≤ length l.nodes) × (l.answer ≡ Ok tt)

abbrev pub invariant-loop-k : goal.invariant-loop-k
invariant-loop-k l = (check_wires (length l.nodes) l.i (wires_of l.n) ≡ check_wires (length l.nodes) l.i (drop l.k (wires_of l.n))) × (l.k ≤ length (wires_of l.n)) × (l.k-end ≡ length (wires_of l.n)) × (l.answer ≡ Ok tt)
