use Rattle.placing_blif.proofs.Alike.{alike}
use Rattle.placing_blif.proofs.built_alike.Goals as goal

pub returns : goal.returns
returns c = alike
