use lib.ListN.{take}
use Rattle.assurance.proofs.Running.{ran_then_evaluated}
use Rattle.assurance.proofs.circuits.run_and_evaluate.Goals as goal

pub returns : goal.returns
returns c =
    ran_then_evaluated c.args.nodes.now c.args.outputs.now (take c.args.cells c.args.order.now) c.args.assignment.now c.args.values.now c.args.answers.now c.args.evaluated.now
    (record { ran = c.run-ran.result; evaluated = c.evaluate-evaluated.result }) c.run-ran.new.values _ _ _ c.run-ran.auto.values c.run-ran.ensures c.evaluate-evaluated.ensures
