use mathlib.Core.Path.{ap, ◌∙◌}
use mathlib.Core.Logic.{inl}
use native.Mathlib.Omega.{arith}
use lib.ListN.{length}
use Rattle.std.proofs.lemmas.Result.{err_from_is_err_and}
use Rattle.std.specs.Iterator.Adapters.{enumerate_source, enumerate_count}
use Rattle.bench_invocations.proofs.Inside.{argument_count_at}
use Rattle.bench_gates.proofs.Drivers.{walking_start, walking_stop, walking_end}
use Rattle.bench_gates.proofs.inputs.input_wires.Goals as goal

pub loop-n-init : goal.loop-n-init
loop-n-init c =
    let t = c.args.table.now in
    let same = c.into_iter-n-iterator.ensures.into_iter_gives in
    let number = ap enumerate_count same ∙ c.enumerate-n-items.ensures.count in
    let source = ap enumerate_source same ∙ c.enumerate-n-items.ensures.source in
    let few = ap length c.arguments_at.ensures.all in
    rw (source, number)
    ((tt, tt, inl (omega (arith, few, argument_count_at t.text.now c.args.arguments c.requires))), tt, c.arguments_at.ensures.same_text, rw c.arguments_at.ensures.all walking_start)

pub returns-in_err-wire : goal.returns-in_err-wire
returns-in_err-wire c =
    let p = err_from_is_err_and c.from_residual.result c.from_residual.ensures.1 in
    rw (p.1, p.2) (walking_stop c.loop-n.invariant.3 _ _ c.in-Some.ensures.steps.0.first _ c.in_err-wire.ensures)

pub returns : goal.returns
returns c = walking_end c.loop-n.invariant.3 c.in-None.ensures.steps.0.first.0
