use Rattle.std.proofs.Common.{◌≡◌, ◌++◌, take, drop}
use Rattle.circuit.specs.Records.{places}
use Rattle.circuit.proofs.records.BoolNode.cell.Given as goal

abbrev pub invariant-loop-k : goal.invariant-loop-k
invariant-loop-k l = l.place-items ≡ take l.k (places l.wires) ++ drop l.k l.initial.place-items
