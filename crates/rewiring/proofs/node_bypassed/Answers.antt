use Rattle.rewiring.proofs.Bypass.{bypassed_is}
use Rattle.rewiring.proofs.node_bypassed.Goals as goal

pub returns : goal.returns
returns c = bypassed_is
