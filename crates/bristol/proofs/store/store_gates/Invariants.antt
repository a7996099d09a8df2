use Rattle.std.proofs.Common.{◌≡◌, length}
use Rattle.laws.specs.Areas.{capacity}
use Rattle.laws.specs.Stretches.{All}
use Rattle.circuit.specs.declared.records.TheConstants.{NODE_WORDS}
use Rattle.reading.specs.Holding.{NodesHold}
use Rattle.bristol_rows.specs.Gates.{gates_left}
use Rattle.bristol_rows.specs.Promises.{GateFits}
use Rattle.bristol.specs.Bristol.{store}
use Rattle.bristol.specs.Promises.{state_of}
use Rattle.bristol.proofs.store.store_gates.Given as goal

abbrev pub invariant-loop-gate : goal.invariant-loop-gate
invariant-loop-gate l =
    (goal.iterator-loop-gate).can_next l.gate-iterator
    × (goal.iterator-loop-gate).is_finite l.gate-iterator
    × (length l.nodes ≡ length l.initial.nodes)
    × (length l.wires ≡ length l.initial.wires)
    × NodesHold l.nodes l.next.0
    × All (GateFits (length l.initial.wires)) (gates_left l.gate-iterator)
    × (let room = capacity NODE_WORDS (length l.initial.nodes) in
    store room (gates_left l.gate-iterator) (state_of l.nodes l.wires l.next) ≡ store room (gates_left l.fn.gates) (state_of l.initial.nodes l.initial.wires l.fn.first))
