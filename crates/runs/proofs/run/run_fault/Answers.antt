use Rattle.std.proofs.Common.{sym, ◌∙◌}
use Rattle.std.proofs.lemmas.Result.{err_from_is_err_and}
use Rattle.circuit.specs.Records.{nodes_of}
use Rattle.values.proofs.Inputs.{assigned}
use Rattle.runs.proofs.Calls.{run_unchecked, run_unassigned, run_unfit, run-fit}
use Rattle.runs.proofs.run.run_fault.Goals as goal

pub returns-in_err-circuit : goal.returns-in_err-circuit
returns-in_err-circuit c =
    let p = err_from_is_err_and c.from_residual.result c.from_residual.ensures.1 in
    rw (p.1, p.2) (run_unchecked c.args.nodes.now c.args.outputs.now c.args.order.now c.args.assignment.now _ _ _ c.in_err-circuit.ensures.fault)

pub returns-then-wrong_assignment : goal.returns-then-wrong_assignment
returns-then-wrong_assignment c =
    let p = c.in_ok-circuit.ensures.nodes in
    let a = rw (p.0, p.1) at c.if-wrong_assignment.ensures in
    run_unassigned c.args.nodes.now c.args.outputs.now c.args.order.now c.args.assignment.now _ _ c.in_ok-circuit.ensures.fault a

pub fit_list-requires : goal.fit_list-requires
fit_list-requires c =
    let words = c.in_ok-circuit.circuit.nodes.words.now in
    (assigned 2 (nodes_of words c.in_ok-circuit.circuit.nodes.count) c.args.assignment.now (sym c.if-wrong_assignment.ensures)).0

pub returns-then-not-fit_list : goal.returns-then-not-fit_list
returns-then-not-fit_list c =
    let p = c.in_ok-circuit.ensures.nodes in
    let a = rw (p.0, p.1) at c.if-wrong_assignment.ensures in
    let f = rw (p.0, p.1) at c.if-not-fit_list.ensures in
    run_unfit c.args.nodes.now c.args.outputs.now c.args.order.now c.args.assignment.now _ _ c.in_ok-circuit.ensures.fault a f

pub returns : goal.returns
returns c =
    let p = c.in_ok-circuit.ensures.nodes in
    let a = rw (p.0, p.1) at c.if-wrong_assignment.ensures in
    let f = rw (p.0, p.1) at c.if-not-fit_list.ensures in
    c.room_fault.ensures ∙ run-fit c.args.nodes.now c.args.outputs.now c.args.order.now c.args.assignment.now _ _ c.in_ok-circuit.ensures.fault a f
