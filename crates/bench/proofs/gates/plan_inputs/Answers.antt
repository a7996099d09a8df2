use Rattle.std.proofs.lemmas.Result.{err_from_is_err_and}
use Rattle.reading.specs.Holding.{entries_of}
use Rattle.bench.proofs.Planning.{plan_refused, inputs_refused}
use Rattle.bench.proofs.gates.plan_inputs.Goals as goal

pub returns-in_err-wires : goal.returns-in_err-wires
returns-in_err-wires c =
    let t = c.args.table.now in
    let p = err_from_is_err_and c.from_residual.result c.from_residual.ensures.1 in
    rw (p.1, p.2) (plan_refused t c.args.out.word _ _ (inputs_refused t.text.now (entries_of t) c.args.invocation _ c.in_err-wires.ensures))
