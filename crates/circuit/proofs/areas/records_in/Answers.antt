use Rattle.laws.specs.Areas.{capacity}
use Rattle.circuit.proofs.areas.records_in.Goals as goal

pub returns : goal.returns
unfolding capacity
returns c = c.min.ensures
