use lib.ListN.{length}
use Rattle.ordering.proofs.Whole.{listed-is}
use borrow.Author.Rules.{rules}
use Rattle.ordering.proofs.taking.fresh_order.Goals as goal

pub returns : goal.returns
returns g c = listed-is _ _ _ _ (length c.args.order.now) c.order_cells.ensures (search rules) (search rules)
