use Rattle.std.proofs.Common.{◌≡◌, ◌+◌, length}
use Rattle.laws.specs.Areas.{capacity}
use Rattle.circuit.specs.declared.records.TheConstants.{NODE_WORDS}
use Rattle.text.specs.Iterators.{kept_left}
use Rattle.reading.specs.Holding.{NodesHold}
use Rattle.bristol.specs.Bristol.{rows}
use Rattle.bristol.specs.Promises.{state_of}
use Rattle.bristol.proofs.rows.read_rows.Given as goal

abbrev pub invariant-loop-line : goal.invariant-loop-line
invariant-loop-line l =
    (goal.iterator-loop-line).can_next l.line-iterator
    × (goal.iterator-loop-line).is_finite l.line-iterator
    × (l.rows + length (kept_left l.line-iterator) ≡ length (kept_left l.lines))
    × (length l.nodes ≡ length l.initial.nodes)
    × NodesHold l.nodes l.next.0
    × (let room = capacity NODE_WORDS (length l.initial.nodes) in
    rows room (kept_left l.line-iterator) (state_of l.nodes l.wires l.next) ≡ rows room (kept_left l.lines) (state_of l.initial.nodes l.initial.wires l.fn.first))
