use Rattle.std.proofs.Common.{◌≡◌, ◌++◌, map, take, drop}
use Rattle.circuit.specs.Records.{wire_word, places}
use Rattle.circuit.proofs.records.node_words.Given as goal

abbrev pub invariant-loop-k : goal.invariant-loop-k
invariant-loop-k l = l.word-items ≡ take l.k (map wire_word (places l.n.wires)) ++ drop l.k l.initial.word-items
