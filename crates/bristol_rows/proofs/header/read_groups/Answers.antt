use Rattle.bristol_rows.proofs.HeaderLaws.{no_second, both_totals}
use Rattle.bristol_rows.proofs.header.read_groups.Goals as goal

pub returns-in_default : goal.returns-in_default
returns-in_default c =
    no_second c.args.counts.gates c.args.counts.wires c.args.b.now c.args.c.now c.in_ok-inputs.inputs c.in_ok-inputs.ensures c.in_ok-outputs.outputs
    (rw c.unwrap_or.ensures at c.in_ok-outputs.ensures) c.in_default.field-0-0 c.in_default.is-0 c.in_default.is-1

pub returns : goal.returns
returns c =
    both_totals c.args.counts.gates c.args.counts.wires c.args.b.now c.args.c.now c.in_ok-inputs.inputs c.in_ok-inputs.ensures c.in_ok-outputs.outputs
    (rw c.unwrap_or.ensures at c.in_ok-outputs.ensures) c.in-Some-Some.inputs c.in-Some-Some.is-0 c.in-Some-Some.outputs c.in-Some-Some.is-1
