use Rattle.std.specs.Prelude.{Err, Ok}
use lib.ListN.{length}
use Rattle.std.proofs.lemmas.Result.{err_from_is_err_and}
use Rattle.reading.specs.Holding.{places_of, held_of, state_of}
use Rattle.bench.proofs.LineLaws.{line_gate}
use Rattle.bench.proofs.lines.read_line.Goals as goal

pub returns-in_err-counts-clause-step : goal.returns-in_err-counts-clause-step
returns-in_err-counts-clause-step c =
    let p = err_from_is_err_and c.from_residual.result c.from_residual.ensures.1 in
    rw (p.1, p.2) (line_gate c.args.text.now (places_of c.args.nodes.now c.args.names.now c.args.outputs.now) c.args.line (state_of c.args.nodes.now c.args.names.now c.args.outputs.now c.args.read) c.in-Some.cut c.in-Some.ensures (Err c.in_err-counts.field-0.0) (rw (c.between-before.ensures, c.between-after.ensures) at (c.in_err-counts.ensures.step (length c.args.outputs.now))))

pub returns-in-Some-clause-step : goal.returns-in-Some-clause-step
returns-in-Some-clause-step c = line_gate c.args.text.now (places_of c.args.nodes.now c.args.names.now c.args.outputs.now) c.args.line (state_of c.args.nodes.now c.args.names.now c.args.outputs.now c.args.read) c.in-Some.cut c.in-Some.ensures (Ok (held_of c.gate_line.new.nodes c.gate_line.new.names c.in_ok-counts.counts)) (rw (c.between-before.ensures, c.between-after.ensures) at (c.in_ok-counts.ensures.step (length c.args.outputs.now)))
