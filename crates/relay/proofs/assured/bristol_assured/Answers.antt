use Rattle.relay.proofs.Chained.{bristol-assured}
use Rattle.relay.proofs.assured.bristol_assured.Goals as goal

pub returns : goal.returns
returns c = bristol-assured
