use mathlib.Core.Path.{◌∙◌}
use lib.ListN.{length}
use Rattle.text.specs.Blanks.{trimmed}
use Rattle.reading.specs.Reading.{places_in}
use Rattle.reading.specs.Holding.{held_of}
use Rattle.bench.proofs.Planning.{gate_on}
use Rattle.bench.proofs.gates.gate_line.Goals as goal

pub returns-clause-step : goal.returns-clause-step
returns-clause-step c = λ l.
    let f = c.in_ok-plan.ensures.fits in
    c.lower_bench_gate.ensures.step l
    ∙ gate_on c.args.text.now (places_in (length c.args.nodes.now) (length c.args.names.now) l) (trimmed c.args.text.now c.args.before) c.args.after (held_of c.args.nodes.now c.args.names.now c.args.counts) c.in_ok-plan.plan c.in_ok-plan.ensures.is f.out_is
