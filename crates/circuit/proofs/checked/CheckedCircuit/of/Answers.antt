use Rattle.std.proofs.Common.{sym}
use mathlib.Core.Path.{◌∙◌}
use Rattle.std.proofs.lemmas.Result.{err_from_is_err_and}
use Rattle.circuit.proofs.Checks.{topological_partial, topological_whole}
use Rattle.circuit.proofs.checked.CheckedCircuit.of.Goals as goal

pub returns-then-not-are_whole-clause-fault : goal.returns-then-not-are_whole-clause-fault
returns-then-not-are_whole-clause-fault c = topological_partial c.args.nodes.now c.args.outputs.now (sym c.if-not-are_whole.ensures)

pub returns-in_err-check_nodes-clause-fault : goal.returns-in_err-check_nodes-clause-fault
returns-in_err-check_nodes-clause-fault c =
    let p = err_from_is_err_and c.from_residual.result c.from_residual.ensures.1 in
    rw (p.1, p.2) (sym (topological_whole c.args.nodes.now c.args.outputs.now (sym c.if-not-are_whole.ensures) ∙ rw (sym (rw (c.of-nodes.ensures.0, c.of-nodes.ensures.1) at c.in_err-check_nodes.ensures))))

pub returns-then-output_outside-clause-fault : goal.returns-then-output_outside-clause-fault
returns-then-output_outside-clause-fault c = sym (topological_whole c.args.nodes.now c.args.outputs.now (sym c.if-not-are_whole.ensures) ∙ rw (sym (rw (c.of-nodes.ensures.0, c.of-nodes.ensures.1) at c.in_ok-check_nodes.ensures), sym (rw (c.of-outputs.ensures.0, c.of-outputs.ensures.1, c.of-nodes.ensures.1) at c.if-output_outside.ensures)))

pub returns-clause-fault : goal.returns-clause-fault
returns-clause-fault c = sym (topological_whole c.args.nodes.now c.args.outputs.now (sym c.if-not-are_whole.ensures) ∙ rw (sym (rw (c.of-nodes.ensures.0, c.of-nodes.ensures.1) at c.in_ok-check_nodes.ensures), sym (rw (c.of-outputs.ensures.0, c.of-outputs.ensures.1, c.of-nodes.ensures.1) at c.if-output_outside.ensures)))
