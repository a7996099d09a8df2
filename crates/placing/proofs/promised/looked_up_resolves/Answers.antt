use Rattle.placing.proofs.LookedUp.{looked-up-resolves}
use Rattle.placing.proofs.promised.looked_up_resolves.Goals as goal

pub returns : goal.returns
returns c = looked-up-resolves
