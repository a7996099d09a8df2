use mathlib.Core.Path.{ap, ◌∙◌}
use mathlib.Core.Logic.{inl}
use native.Mathlib.Omega.{arith}
use lib.ListN.{length}
use Rattle.std.specs.Iterator.Adapters.{enumerate_source, enumerate_count}
use Rattle.std.proofs.lemmas.Result.{err_from_is_err_and}
use Rattle.bench_invocations.proofs.Inside.{argument_count_at}
use Rattle.bench_gates.proofs.Chaining.{stepping_start, stepping_stands, stepping_stops, stepping_refused, stepping_end}
use Rattle.bench_gates.proofs.chains.chain_steps.Goals as goal

pub loop-k-init : goal.loop-k-init
loop-k-init c =
    let t = c.args.table.now in
    let same = c.into_iter-k-iterator.ensures.into_iter_gives in
    let number = ap enumerate_count same ∙ c.enumerate-k-items.ensures.count in
    let source = ap enumerate_source same ∙ c.enumerate-k-items.ensures.source in
    let few = ap length c.arguments_at.ensures.all in
    rw (source, number) ((tt, tt, inl (rw c.skip.ensures.source (omega (arith, few, argument_count_at t.text.now c.args.plan.arguments c.requires.arguments_in_text)))), tt, stepping_start c.requires.arguments_in_text c.requires.area _ c.arguments_at.ensures.all _ c.skip.ensures.source c.skip.ensures.count)

pub argument_wire-requires : goal.argument_wire-requires
argument_wire-requires c =
    stepping_stands c.loop-k.invariant.2 _ _ c.in-Some.ensures.steps.0

pub returns-in_err-wire : goal.returns-in_err-wire
returns-in_err-wire c =
    let p = err_from_is_err_and c.from_residual.result c.from_residual.ensures.1 in
    rw (p.1, p.2) (stepping_stops c.loop-k.invariant.2 _ _ c.in-Some.ensures.steps.0 _ c.in_err-wire.ensures)

pub returns-in_err-chained : goal.returns-in_err-chained
returns-in_err-chained c =
    let p = err_from_is_err_and c.from_residual-in_err-chained.result c.from_residual-in_err-chained.ensures.1 in
    rw (p.1, p.2) (stepping_refused c.loop-k.invariant.2 _ _ c.in-Some.ensures.steps.0 c.in_ok-wire.wire c.in_ok-wire.ensures c.chain_step.new.nodes _ (rw (c.in-Some.ensures.steps.1, c.loop-k.auto.nodes) at c.in_err-chained.ensures.step) c.in_err-chained.ensures.area)

pub returns : goal.returns
returns c =
    stepping_end c.loop-k.invariant.2 _ c.in-None.ensures.steps.0
