use Rattle.circuit.specs.Records.{node_at}
use Rattle.values.proofs.Entries.{ReadTo}
use Rattle.values.proofs.evaluate.entry.Given as goal

abbrev pub invariant-loop-k : goal.invariant-loop-k
invariant-loop-k l = ReadTo l.nodes.count l.i (node_at l.nodes.words.now l.i) l.before l.k l.index
