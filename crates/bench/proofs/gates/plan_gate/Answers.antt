use Rattle.std.specs.Prelude.{Err, Ok}
use Rattle.std.proofs.lemmas.Result.{err_from_is_err_and}
use Rattle.reading.specs.Holding.{entries_of}
use Rattle.bench_invocations.specs.Walks.{invoked}
use Rattle.bench.proofs.Planning.{plan_refused, new_output}
use Rattle.bench.proofs.gates.plan_gate.Goals as goal

pub returns-in_err-invocation : goal.returns-in_err-invocation
returns-in_err-invocation c =
    let t = c.args.table.now in
    let p = err_from_is_err_and c.from_residual.result c.from_residual.ensures.1 in
    let e = new_output t.text.now c.trim-out.result c.args.after (entries_of t) c.if-out-eq0.false c.in-Err.ensures.0 (Err c.in_err-invocation.field-0.0) c.in_err-invocation.ensures.is in
    rw (p.1, p.2) (rw c.trim-out.ensures.0 at (plan_refused t c.trim-out.result _ _ e))

pub returns : goal.returns
returns c =
    let t = c.args.table.now in
    let e = new_output t.text.now c.trim-out.result c.args.after (entries_of t) c.if-out-eq0.false c.in-Err.ensures.0 (Ok (invoked t.text.now c.in_ok-invocation.invocation)) c.in_ok-invocation.ensures.is in
    rw c.trim-out.ensures.0 at (rw (e, c.in-Err.ensures.1) at c.plan_inputs.ensures)
