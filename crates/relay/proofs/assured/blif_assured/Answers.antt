use Rattle.relay.proofs.Chained.{blif-assured}
use Rattle.relay.proofs.assured.blif_assured.Goals as goal

pub returns : goal.returns
returns c = blif-assured
