use Rattle.ordering.proofs.EveryOrder.{every_order}
use Rattle.ordering.proofs.promised.order_promised.Goals as goal

pub returns : goal.returns
returns c = every_order
