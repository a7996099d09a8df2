use Rattle.assurance.proofs.Running.{ran_cleared}
use Rattle.assurance.proofs.circuits.run_ordered.Goals as goal

pub returns-clause-values_after : goal.returns-clause-values_after
returns-clause-values_after c =
    ran_cleared c.args.nodes.now c.args.outputs.now _ c.args.assignment.now c.args.values.now c.args.answers.now c.args.evaluated.now
    c.run_and_evaluate.result _ _ _ c.run_and_evaluate.ensures
