use Rattle.std.proofs.Common.{◌≡◌, ◌≤◌}
use Rattle.bench_invocations.specs.Walks.{arguments_left, counted}
use Rattle.bench_invocations.proofs.iterators.count_arguments.Given as goal

abbrev pub invariant-loop-argument : goal.invariant-loop-argument
invariant-loop-argument l =
    (l.n ≤ l.argument-iterator.at)
    × (l.argument-iterator.end ≡ l.arguments.end)
    × (counted (arguments_left l.argument-iterator) l.n ≡ counted (arguments_left l.arguments) 0)
