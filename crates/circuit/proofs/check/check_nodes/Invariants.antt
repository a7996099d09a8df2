use Rattle.std.proofs.Common.{◌≡◌, ◌≤◌, length, drop}
use Rattle.std.specs.Prelude.{Ok}
use Rattle.circuit.specs.Records.{wires_of, nodes_of}
use Rattle.circuit.specs.Check.{check_wires, check_nodes}
use Rattle.circuit.proofs.Checks.{rest}
use Rattle.circuit.proofs.check.check_nodes.Given as goal

abbrev pub invariant-scan : goal.invariant-scan
invariant-scan l = (check_nodes l.nodes.count 0 (nodes_of l.nodes.words.now l.nodes.count) ≡ rest l.nodes.words.now l.nodes.count l.i) × (l.i ≤ l.nodes.count) × (l.answer ≡ Ok tt)

abbrev pub invariant-loop-k : goal.invariant-loop-k
invariant-loop-k l = (check_wires l.nodes.count l.i (wires_of l.n) ≡ check_wires l.nodes.count l.i (drop l.k (wires_of l.n))) × (l.k ≤ length (wires_of l.n)) × (l.k-end ≡ length (wires_of l.n)) × (l.answer ≡ Ok tt)
