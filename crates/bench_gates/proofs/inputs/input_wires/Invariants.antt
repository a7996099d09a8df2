use Rattle.std.proofs.Common.{◌≡◌}
use Rattle.std.specs.Iterator.Adapters.{enumerate_source, enumerate_count}
use Rattle.names.specs.Chains.{entries}
use Rattle.bench_invocations.specs.Walks.{arguments_at, arguments_left}
use Rattle.bench_gates.proofs.Drivers.{Walking}
use Rattle.bench_gates.proofs.inputs.input_wires.Given as goal

abbrev pub invariant-loop-n : goal.invariant-loop-n
invariant-loop-n l =
    let t = l.table.text.now in
    goal.iterator-loop-n.can_next l.n-iterator
    × goal.iterator-loop-n.is_finite l.n-iterator
    × ((enumerate_source l.n-iterator).text.now ≡ t)
    × Walking t (entries l.table.names.now l.table.count) (arguments_left (enumerate_source l.n-iterator)) (arguments_at t l.fn.arguments) (enumerate_count l.n-iterator) l.wires
