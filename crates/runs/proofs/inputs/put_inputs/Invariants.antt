use Rattle.runs.proofs.Putting.{PutSoFar}
use Rattle.runs.proofs.inputs.put_inputs.Given as goal

abbrev pub invariant-loop-k : goal.invariant-loop-k
invariant-loop-k l = PutSoFar l.nodes.words.now l.nodes.count l.assignment l.initial.values l.k l.input l.values
