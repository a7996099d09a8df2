use Rattle.std.proofs.Common.{ap, ◌∙◌}
use Rattle.std.proofs.lemmas.Result.{err_from_is_err_and}
use Rattle.circuit.specs.Refusals.{Checked, first_fault}
use Rattle.values.specs.Calls.{room_fault, evaluate_fault}
use Rattle.values.proofs.Calls.{assigned_then}
use Rattle.values.proofs.evaluate.evaluate_fault.Goals as goal

pub returns-in_err-assigned_fault : goal.returns-in_err-assigned_fault
unfolding evaluate_fault
returns-in_err-assigned_fault c =
    let p = err_from_is_err_and c.from_residual.result c.from_residual.ensures.1 in
    let room = room_fault c.args.nodes.now c.args.outputs.now c.args.store c.args.answers in
    rw (p.1, p.2) (ap (λ (f : Checked). first_fault f room) c.in_err-assigned_fault.ensures ∙ assigned_then 1 c.args.nodes.now c.args.outputs.now c.args.assignment.now room)

pub returns : goal.returns
unfolding evaluate_fault
returns c =
    let room = room_fault c.args.nodes.now c.args.outputs.now c.args.store c.args.answers in
    c.room_fault.ensures ∙ ap (λ (f : Checked). first_fault f room) c.in_ok-assigned_fault.ensures ∙ assigned_then 1 c.args.nodes.now c.args.outputs.now c.args.assignment.now room
