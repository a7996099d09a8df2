use Rattle.std.proofs.Common.{ℕ, length, replicate, ap, ◌∙◌}
use Rattle.circuit.specs.Check.{nodes_in, wires_in}
use Rattle.circuit.specs.Graph.{graph_of}
use Rattle.graphs.specs.Graph.{cells_of}
use Rattle.values.proofs.Calls.{call_left}
use Rattle.runs.specs.Runs.{run_outputs}
use Rattle.runs.specs.Calls.{run_fault, run_call}
use Rattle.runs.proofs.run.run.Goals as goal

pub returns : goal.returns
unfolding run_call
returns c =
    call_left (run_fault c.args.nodes.now c.args.outputs.now c.args.order.now c.args.assignment.now (length c.args.values.now) (length c.args.answers.now))
    (length (cells_of (graph_of (nodes_in c.args.nodes.now))))
    (run_outputs (nodes_in c.args.nodes.now) (wires_in c.args.outputs.now) c.args.assignment.now c.args.order.now c.args.values.now) c.fill.new.self (length c.args.values.now) (length c.args.answers.now) _ _ _
    (rw c.fill.ensures.len at c.work_out-result.ensures.checked)
    (c.fill.ensures.after (λ y q. q)) c.work_out-result.ensures.given
    (c.fill-2.ensures.after (λ y q. q) ∙ ap (λ (k : ℕ). replicate k 0) c.work_out-result.auto.values)
