use Prim.Native.Nat.{◌+◌, ◌≤◌}
use mathlib.Core.Path.{◌∙◌}
use native.Mathlib.Omega.{arith}
use Rattle.std.proofs.Common.{rules}
use Rattle.bench_invocations.specs.Walks.{arguments_left}
use Rattle.bench_invocations.proofs.Counting.{count_end, count_empty, count_on}
use Rattle.bench_invocations.proofs.iterators.count_arguments.Goals as goal

pub returns-then-argument-eq0 : goal.returns-then-argument-eq0
returns-then-argument-eq0 c = count_empty (arguments_left c.loop-argument.argument-iterator) c.loop-argument.n _ _ c.in-Some.ensures.steps.first c.if-argument-eq0.true ∙ c.loop-argument.invariant.2

pub overflow_add-n : goal.overflow_add-n
overflow_add-n c =
    let step = c.in-Some.ensures.steps in
    let more : c.loop-argument.n + 1 ≤ c.args.arguments.end + 1 = omega (arith, step.is_argument, step.same_end, c.next.new.self.inside, c.loop-argument.invariant.0, c.loop-argument.invariant.1) in
    search rules

pub loop-argument-preserved : goal.loop-argument-preserved
loop-argument-preserved c = (
  omega (arith, c.in-Some.ensures.steps.is_argument, c.loop-argument.invariant.0),
  c.in-Some.ensures.steps.same_end ∙ c.loop-argument.invariant.1,
  count_on (arguments_left c.loop-argument.argument-iterator) c.loop-argument.n _ _ c.in-Some.ensures.steps.first c.if-argument-eq0.false ∙ c.loop-argument.invariant.2,
)

pub returns : goal.returns
returns c = count_end (arguments_left c.loop-argument.argument-iterator) c.loop-argument.n c.in-None.ensures.steps.first.0 ∙ c.loop-argument.invariant.2
