use Rattle.std.proofs.Common.{sym}
use Rattle.runs.proofs.Calls.{runnable, accepted_answer}
use Rattle.runs.proofs.run.work_out.Goals as goal

pub run_outputs-requires : goal.run_outputs-requires
run_outputs-requires c =
    let r = runnable c.args.nodes.now c.args.outputs.now c.args.order.now c.args.assignment.now _ _ (sym c.in_ok-run_fault.ensures) in
    rw (c.of.ensures.0, c.of.ensures.1, c.of-2.ensures.0, c.of-2.ensures.1)
    (record { stored = r.room.store_room; one_each = r.inputs; sound = r.sound; room = r.room.answers_room; wired = r.wired })

pub returns-clause-checked : goal.returns-clause-checked
returns-clause-checked c = accepted_answer c.args.nodes.now c.args.outputs.now c.args.order.now c.args.assignment.now _ _ (sym c.in_ok-run_fault.ensures)
