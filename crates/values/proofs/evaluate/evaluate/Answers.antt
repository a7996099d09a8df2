use Rattle.std.proofs.Common.{ℕ, ◌/◌, length, replicate, ap, ◌∙◌}
use Rattle.circuit.specs.declared.records.TheConstants.{OUTPUT_WORDS}
use Rattle.circuit.specs.Check.{nodes_in, wires_in}
use Rattle.values.specs.Values.{evaluated}
use Rattle.values.specs.Calls.{evaluate_fault, evaluate_call}
use Rattle.values.proofs.Calls.{call_left}
use Rattle.values.proofs.evaluate.evaluate.Goals as goal

pub returns : goal.returns
unfolding evaluate_call
returns c =
    call_left (evaluate_fault c.args.nodes.now c.args.outputs.now c.args.assignment.now (length c.args.values.now) (length c.args.answers.now)) (length c.args.outputs.now / OUTPUT_WORDS)
    (evaluated (nodes_in c.args.nodes.now) (wires_in c.args.outputs.now) c.args.assignment.now) c.fill.new.self (length c.args.values.now) (length c.args.answers.now) _ _ _
    (rw c.fill.ensures.len at c.work_out-result.ensures.checked)
    (c.fill.ensures.after (λ y q. q)) c.work_out-result.ensures.given
    (c.fill-2.ensures.after (λ y q. q) ∙ ap (λ (k : ℕ). replicate k 0) c.work_out-result.auto.values)
