use Rattle.std.proofs.Common.{◌≡◌, ◌≤◌, length, drop}
use Rattle.circuit.specs.Records.{wires_of}
use Rattle.circuit.specs.Check.{check_wires, check_node}
use Rattle.circuit.proofs.check.check_node.Given as goal

abbrev pub invariant-loop-k : goal.invariant-loop-k
invariant-loop-k l = (check_node l.m l.i l.n ≡ check_wires l.m l.i (drop l.k (wires_of l.n))) × (l.k ≤ length (wires_of l.n)) × (l.k-end ≡ length (wires_of l.n))
