use Prim.Native.Nat.{◌<◌}
use mathlib.Core.Path.{◌≡◌}
use lib.ListN.{length}
use Rattle.ordering.specs.Schedule.{key_at}
use Rattle.ordering.specs.Tree.{Joined, LeavesKept}
use Rattle.ordering.proofs.tree.climb.Given as goal

abbrev pub invariant-loop-v : goal.invariant-loop-v
invariant-loop-v l = Joined (key_at l.keys) l.leaves l.nodes l.tree 1 l.v × (l.v < l.leaves) × LeavesKept l.leaves l.initial.tree l.tree × (length l.tree ≡ length l.initial.tree)

abbrev pub decreases-loop-v : goal.decreases-loop-v
decreases-loop-v l = l.v
