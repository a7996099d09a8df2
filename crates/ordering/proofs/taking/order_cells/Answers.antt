use Prim.Native.Nat.{◌+◌, ◌*◌}
use mathlib.Core.Path.{refl}
use native.Mathlib.Omega.{arith}
use lib.ListN.{length}
use Rattle.laws.proofs.Parts.{cleared_at}
use Rattle.ordering.proofs.Moving.{cleared_empty}
use Rattle.ordering.proofs.Whole.{started_is, filled_is}
use borrow.Author.Rules.{rules}
use Rattle.ordering.proofs.taking.order_cells.Goals as goal

pub link_all-requires : goal.link_all-requires
link_all-requires g c = (search rules, search rules, (λ x h. cleared_at _ (length c.args.area.now) (2 * x + 1) (search rules)))

pub open_all-cells-requires : goal.open_all-cells-requires
open_all-cells-requires g c = rw c.count-count.ensures (search rules, search rules, c.link_all.ensures.0, cleared_empty _ _ (length c.args.area.now) _ (search rules) c.link_all.ensures.1, refl)

pub take_all-requires : goal.take_all-requires
take_all-requires g c = (started_is _ _ _ c.count-count.ensures _ _ c.open_all-cells.ensures.0, omega (arith, c.count-count.ensures), omega (arith, c.count-count.ensures), c.open_all-cells.ensures.1)

pub returns : goal.returns
returns g c = filled_is _ _ _ c.count-count.ensures _ _ _ _ _ _ _ c.open_all-cells.ensures.0 c.take_all.ensures.0 c.take_all.ensures.1
