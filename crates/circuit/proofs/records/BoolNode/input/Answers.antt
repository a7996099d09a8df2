use Rattle.std.proofs.Common.{refl}
use Rattle.circuit.specs.Records.{input_node, places}
use Rattle.circuit.proofs.records.BoolNode.input.Goals as goal

pub returns : goal.returns
unfolding input_node places
returns c = refl
