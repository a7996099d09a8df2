use Rattle.std.proofs.Common.{◌≡◌, ◌++◌, map, take, drop}
use Rattle.circuit.specs.Records.{node_at, wires_of}
use Rattle.values.specs.Values.{signal_value}
use Rattle.values.proofs.cell.filled.Given as goal

abbrev pub invariant-loop-k : goal.invariant-loop-k
invariant-loop-k l = l.value-items ≡ take l.k (map (signal_value l.values) (wires_of (node_at l.nodes.words.now l.i))) ++ drop l.k l.initial.value-items
