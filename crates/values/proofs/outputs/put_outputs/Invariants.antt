use mathlib.Core.Path.{◌≡◌}
use mathlib.Core.List.{◌++◌}
use lib.ListN.{take, drop}
use Rattle.circuit.specs.Records.{output_wires}
use Rattle.values.specs.Values.{outputs_from}
use Rattle.values.proofs.outputs.put_outputs.Given as goal

abbrev pub invariant-loop-j : goal.invariant-loop-j
invariant-loop-j l = l.answer-items ≡ take l.j (outputs_from l.values (output_wires l.outputs.words.now l.outputs.count)) ++ drop l.j l.initial.answer-items
