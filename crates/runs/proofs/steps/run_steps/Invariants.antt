use Rattle.runs.proofs.Stepping.{Gone}
use Rattle.runs.proofs.steps.run_steps.Given as goal

abbrev pub invariant-loop-x : goal.invariant-loop-x
invariant-loop-x l = Gone l.nodes.words.now l.nodes.count l.order l.initial.values l.x-index l.values
