use Rattle.std.proofs.Common.{◌≡◌, ◌-◌, ◌≤◌, length}
use Rattle.reading.specs.Holding.{NodesHold}
use Rattle.bristol.specs.Bristol.{with_inputs}
use Rattle.bristol.specs.Promises.{state_of}
use Rattle.bristol.proofs.reader.put_inputs.Given as goal

abbrev pub decreases-loop-wire : goal.decreases-loop-wire
decreases-loop-wire l = l.count - l.wire.0

abbrev pub invariant-loop-wire : goal.invariant-loop-wire
invariant-loop-wire l =
    (l.next.0 ≡ l.wire.0)
    × (l.wire.0 ≤ l.count)
    × (length l.nodes ≡ length l.initial.nodes)
    × NodesHold l.nodes l.next.0
    × (state_of l.nodes l.wires l.next ≡ with_inputs l.next.0 l.initial.wires)
