use mathlib.Core.Path.{◌≡◌}
use lib.ListN.{take}
use Rattle.std.specs.Iterator.Adapters.{take_source, take_count}
use Rattle.ordering.specs.Schedule.{key_at}
use Rattle.ordering.specs.Areas.{key_of}
use Rattle.ordering.specs.Members.{members_left}
use Rattle.ordering.proofs.Scan.{PickIs}
use Rattle.ordering.proofs.picking.pick_ready.Given as goal

abbrev pub invariant-loop-node : goal.invariant-loop-node
invariant-loop-node l =
    (goal.iterator-loop-node).can_next l.node-iterator
    × (goal.iterator-loop-node).is_finite l.node-iterator
    × ((take_source l.node-iterator).nodes ≡ l.nodes)
    × (key_of l.best.key ≡ key_at l.keys l.best.node)
    × PickIs l.set l.keys l.nodes l.others l.best.node (take (take_count l.node-iterator) (members_left (take_source l.node-iterator)))
