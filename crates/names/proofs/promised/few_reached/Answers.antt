use Rattle.names.proofs.Bounds.{few_reached}
use Rattle.names.proofs.promised.few_reached.Goals as goal

pub returns : goal.returns
returns c = few_reached
