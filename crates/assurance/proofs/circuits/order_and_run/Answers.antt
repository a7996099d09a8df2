use Rattle.assurance.specs.Composed.{question}
use Rattle.assurance.proofs.Running.{refused_run, cells_inside, accepted_both, circuit_assured}
use Rattle.assurance.specs.Assurance.{Areas}
use Rattle.assurance.proofs.circuits.order_and_run.Goals as goal

pub run_and_evaluate-requires : goal.run_and_evaluate-requires
run_and_evaluate-requires c = cells_inside c.args.nodes.now c.args.outputs.now (question c.args.asked) (record { ready = c.args.ready.now; successors = c.args.successors.now; order = c.args.order.now; values = c.args.values.now; answers = c.args.answers.now; evaluated = c.args.evaluated.now }) _ _ _ c.in-Ok.cells (rw c.in-Ok.is at c.scheduled_gates_by_key.ensures)

pub returns-in-Ok : goal.returns-in-Ok
returns-in-Ok c =
    let q = question c.args.asked in
    let before : Areas = record { ready = c.args.ready.now; successors = c.args.successors.now; order = c.args.order.now; values = c.args.values.now; answers = c.args.answers.now; evaluated = c.args.evaluated.now } in
    circuit_assured c.args.nodes.now c.args.outputs.now q before _ _
    (accepted_both c.args.nodes.now c.args.outputs.now q before _ _ _ c.in-Ok.cells (rw c.in-Ok.is at c.scheduled_gates_by_key.ensures)
    c.run_and_evaluate.result c.run_and_evaluate.new.values c.run_and_evaluate.new.answers c.run_and_evaluate.new.evaluated c.run_and_evaluate.ensures)

pub returns-in-Err : goal.returns-in-Err
returns-in-Err c =
    let q = question c.args.asked in
    let before : Areas = record { ready = c.args.ready.now; successors = c.args.successors.now; order = c.args.order.now; values = c.args.values.now; answers = c.args.answers.now; evaluated = c.args.evaluated.now } in
    circuit_assured c.args.nodes.now c.args.outputs.now q before _ _
    (refused_run c.args.nodes.now c.args.outputs.now q before _ _ _ c.in-Err.e (rw c.in-Err.is at c.scheduled_gates_by_key.ensures)
    c.refuse.result c.refuse.new.values c.refuse.new.answers c.refuse.new.evaluated
    c.refuse.ensures.answers.0 c.refuse.ensures.answers.1 c.refuse.ensures.values_are c.refuse.ensures.answers_are c.refuse.ensures.evaluated_are)
