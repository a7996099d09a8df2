use Rattle.std.proofs.Common.{◌≡◌, ◌++◌, take, drop}
use Rattle.circuit.specs.Records.{node_at}
use Rattle.circuit.proofs.nodes.Records+NODE_WORDS.at.Given as goal

abbrev pub invariant-loop-k : goal.invariant-loop-k
invariant-loop-k l = l.wire-items ≡ take l.k (node_at l.self.words.now l.i).wires ++ drop l.k l.initial.wire-items
