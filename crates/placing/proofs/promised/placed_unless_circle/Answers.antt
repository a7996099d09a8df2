use Rattle.placing.proofs.Filed.{unless-circle}
use Rattle.placing.proofs.promised.placed_unless_circle.Goals as goal

pub returns : goal.returns
returns c = unless-circle
