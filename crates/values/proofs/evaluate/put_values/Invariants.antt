use Rattle.values.proofs.Valued.{Valued}
use Rattle.values.proofs.evaluate.put_values.Given as goal

abbrev pub invariant-loop-i : goal.invariant-loop-i
invariant-loop-i l = Valued l.nodes.words.now l.nodes.count l.assignment l.initial.values l.i l.inputs l.values
