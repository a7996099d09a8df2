use Rattle.std.specs.Prelude.{Err, Ok}
use mathlib.Core.Path.{◌∙◌}
use lib.ListN.{length}
use Rattle.std.proofs.Common.{rules}
use Rattle.std.proofs.lemmas.Result.{err_from_is_err_and}
use Rattle.circuit.specs.Records.{nodes_of}
use Rattle.names.specs.Chains.{entries}
use Rattle.reading.specs.Reading.{places_in}
use Rattle.bench_gates.proofs.Chaining.{gate_made}
use Rattle.bench_gates.proofs.Lowering.{buffered, inverted, unknown, too_few, pair_made, triple_made, many_made}
use Rattle.bench_gates.proofs.gates.lower_bench_gate.Goals as goal

pub returns-in_err-named-in-Buf-default-clause-step : goal.returns-in_err-named-in-Buf-default-clause-step
returns-in_err-named-in-Buf-default-clause-step c = λ l.
    let p = err_from_is_err_and c.from_residual.result c.from_residual.ensures.1 in
    rw (p.1, p.2) (buffered c.args.text.now (entries c.args.names.now c.args.counts.names) c.args.plan c.requires.driven (places_in (length c.args.nodes.now) (length c.args.names.now) l) (nodes_of c.args.nodes.now c.args.counts.nodes) c.in-Buf-default.is-0 (Err c.in_err-named-in-Buf-default.field-0.0) c.in_err-named-in-Buf-default.ensures.step)

pub returns-in_ok-named-in-Buf-default-clause-step : goal.returns-in_ok-named-in-Buf-default-clause-step
returns-in_ok-named-in-Buf-default-clause-step c = λ l. buffered c.args.text.now (entries c.args.names.now c.args.counts.names) c.args.plan c.requires.driven (places_in (length c.args.nodes.now) (length c.args.names.now) l) (nodes_of c.args.nodes.now c.args.counts.nodes) c.in-Buf-default.is-0 (Ok (entries c.lower_buffer.new.names c.in_ok-named-in-Buf-default.named)) c.in_ok-named-in-Buf-default.ensures.step

pub returns-in-Not-default-clause-step : goal.returns-in-Not-default-clause-step
returns-in-Not-default-clause-step c = λ l. inverted c.args.text.now (entries c.args.names.now c.args.counts.names) c.args.plan c.requires.driven (places_in (length c.args.nodes.now) (length c.args.names.now) l) (nodes_of c.args.nodes.now c.args.counts.nodes) c.in-Not-default.is-0 _ (c.lower_inverter.ensures.step l)

pub returns-in-Chain-eq0-clause-step : goal.returns-in-Chain-eq0-clause-step
returns-in-Chain-eq0-clause-step c = λ l. rw c.in-Chain-eq0.is-0 (too_few c.args.text.now (entries c.args.names.now c.args.counts.names) c.args.plan c.requires.driven (places_in (length c.args.nodes.now) (length c.args.names.now) l) (nodes_of c.args.nodes.now c.args.counts.nodes) c.in-Chain-eq0.field-0-0 (search rules))

pub returns-in-Chain-eq2-clause-step : goal.returns-in-Chain-eq2-clause-step
returns-in-Chain-eq2-clause-step c = λ l. rw c.in-Chain-eq2.is-0 (c.chain_pair.ensures.step l ∙ pair_made c.args.text.now (entries c.args.names.now c.args.counts.names) c.args.plan c.requires.driven (places_in (length c.args.nodes.now) (length c.args.names.now) l) (nodes_of c.args.nodes.now c.args.counts.nodes) c.in-Chain-eq2.o c.in-Chain-eq2.is-1)

pub returns-in-Chain-eq3-clause-step : goal.returns-in-Chain-eq3-clause-step
returns-in-Chain-eq3-clause-step c = λ l. rw c.in-Chain-eq3.is-0 (c.chain_triple.ensures.step l ∙ triple_made c.args.text.now (entries c.args.names.now c.args.counts.names) c.args.plan c.requires.driven (places_in (length c.args.nodes.now) (length c.args.names.now) l) (nodes_of c.args.nodes.now c.args.counts.nodes) c.in-Chain-eq3.o c.in-Chain-eq3.is-1)

pub returns-in-Chain-default-clause-step : goal.returns-in-Chain-default-clause-step
returns-in-Chain-default-clause-step c = λ l.
    let t = c.args.text.now in
    let es = entries c.args.names.now c.args.counts.names in
    let p = places_in (length c.args.nodes.now) (length c.args.names.now) l in
    let ns = nodes_of c.args.nodes.now c.args.counts.nodes in
    many_made t es c.args.plan c.requires.driven p ns c.in-Chain-default.o c.in-Chain-default.is-0 _ (c.chain_many.ensures.step l ∙ gate_made t es c.args.plan c.in-Chain-default.o p c.requires.driven (search rules) ns)

pub returns-in-Other-default-clause-step : goal.returns-in-Other-default-clause-step
returns-in-Other-default-clause-step c = λ l. unknown c.args.text.now (entries c.args.names.now c.args.counts.names) c.args.plan c.requires.driven (places_in (length c.args.nodes.now) (length c.args.names.now) l) (nodes_of c.args.nodes.now c.args.counts.nodes) c.in-Other-default.is-0
