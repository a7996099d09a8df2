use Rattle.std.proofs.Common.{sym}
use Rattle.std.proofs.lemmas.Result.{err_from_is_err_and}
use Rattle.values.proofs.Calls.{unchecked, unassigned, well_assigned}
use Rattle.values.proofs.assignments.assigned_fault.Goals as goal

pub returns-in_err-validate_topological : goal.returns-in_err-validate_topological
returns-in_err-validate_topological c =
    let p = err_from_is_err_and c.from_residual.result c.from_residual.ensures.1 in
    rw (p.1, p.2) (unchecked c.args.top c.args.nodes.now c.args.outputs.now c.args.assignment.now _ (sym c.in_err-validate_topological.ensures))

pub returns-then-wrong_assignment : goal.returns-then-wrong_assignment
returns-then-wrong_assignment c =
    let w = rw (c.of.ensures.0, c.of.ensures.1) at c.if-wrong_assignment.ensures in
    unassigned c.args.top c.args.nodes.now c.args.outputs.now c.args.assignment.now (sym c.in_ok-validate_topological.ensures) (sym w)

pub returns : goal.returns
returns c =
    let w = rw (c.of.ensures.0, c.of.ensures.1) at c.if-wrong_assignment.ensures in
    well_assigned c.args.top c.args.nodes.now c.args.outputs.now c.args.assignment.now (sym c.in_ok-validate_topological.ensures) (sym w)
