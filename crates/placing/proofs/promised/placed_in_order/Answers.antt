use Rattle.placing.proofs.Filed.{in-order}
use Rattle.placing.proofs.promised.placed_in_order.Goals as goal

pub returns : goal.returns
returns c = in-order
