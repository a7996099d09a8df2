use Rattle.std.proofs.Common.{arith}
use Rattle.std.proofs.lemmas.Result.{err_from_is_err_and}
use Rattle.reading.specs.Holding.{entries_of}
use Rattle.blif.proofs.Plans.{driving_stop, driving_on, driving_end}
use Rattle.blif.proofs.gates.drivers.Goals as goal

pub returns-in_err-wires : goal.returns-in_err-wires
returns-in_err-wires c =
    let p = err_from_is_err_and c.from_residual.result c.from_residual.ensures.1 in
    rw (p.1, p.2) (driving_stop c.args.table.now.text.now (entries_of c.args.table.now) c.args.inputs.now c.loop-k.k c.loop-k.wires c.loop-k.invariant _ c.loop-k-test.true _ c.in_err-wires.ensures)

pub loop-k-preserved : goal.loop-k-preserved
loop-k-preserved c =
    driving_on c.args.table.now.text.now (entries_of c.args.table.now) c.args.inputs.now c.loop-k.k c.loop-k.wires c.loop-k.invariant _ c.loop-k-test.true c.in_ok-wires.field-0 c.in_ok-wires.ensures (omega (arith, c.loop-k-test.true))

pub returns : goal.returns
returns c =
    driving_end c.args.table.now.text.now (entries_of c.args.table.now) c.args.inputs.now c.loop-k.k c.loop-k.wires c.loop-k.invariant c.loop-k-test.false (omega (arith, c.loop-k.auto.k-end))
