use Rattle.std.proofs.Common.{length}
use Rattle.std.specs.Iterator.Adapters.{enumerate_source, enumerate_count}
use Rattle.names.specs.Chains.{entries}
use Rattle.bench_gates.proofs.Chaining.{Stepping}
use Rattle.bench_gates.proofs.chains.chain_steps.Given as goal

abbrev pub invariant-loop-k : goal.invariant-loop-k
invariant-loop-k l =
    goal.iterator-loop-k.can_next l.k-iterator
    × goal.iterator-loop-k.is_finite l.k-iterator
    × Stepping l.table.text.now (entries l.table.names.now l.table.count) l.plan l.operation (length l.initial.nodes) l.initial.nodes l.initial.chained (enumerate_source l.k-iterator) (enumerate_count l.k-iterator) l.nodes l.chained
