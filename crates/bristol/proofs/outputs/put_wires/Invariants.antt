use Rattle.std.proofs.Common.{◌≡◌, ◌+◌, drop, length}
use Rattle.circuit.specs.Records.{outputs_of}
use Rattle.reading.specs.Holding.{OutputsHold}
use Rattle.bristol_rows.specs.Slots.{wire_number}
use Rattle.bristol.specs.Bristol.{outputs_from}
use Rattle.bristol.proofs.outputs.put_wires.Given as goal

abbrev pub invariant-loop-count : goal.invariant-loop-count
invariant-loop-count l =
    (l.wire ≡ wire_number (l.first.0 + l.count))
    × (length l.outputs ≡ length l.initial.outputs)
    × OutputsHold l.outputs l.count
    × (outputs_from l.room (l.first.0 + l.count) (drop l.count (drop l.first.0 l.wires)) (outputs_of l.outputs l.count) ≡ outputs_from l.room l.first.0 (drop l.first.0 l.wires) (outputs_of l.initial.outputs 0))
