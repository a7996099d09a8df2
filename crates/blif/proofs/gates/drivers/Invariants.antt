use Rattle.reading.specs.Holding.{entries_of}
use Rattle.blif.proofs.Plans.{Driving}
use Rattle.blif.proofs.gates.drivers.Given as goal

abbrev pub invariant-loop-k : goal.invariant-loop-k
invariant-loop-k l = Driving l.table.text.now (entries_of l.table) l.inputs l.k l.wires
