use Rattle.std.proofs.Common.{◌≡◌, ◌++◌, map, take, drop}
use Rattle.circuit.specs.Records.{wire_of}
use Rattle.reading.proofs.records.word_cell.Given as goal

abbrev pub invariant-loop-k : goal.invariant-loop-k
invariant-loop-k l = l.wire-items ≡ take l.k (map wire_of l.words) ++ drop l.k l.initial.wire-items
