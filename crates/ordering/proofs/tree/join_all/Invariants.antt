use Prim.Native.Nat.{◌≤◌}
use mathlib.Core.Path.{◌≡◌}
use lib.ListN.{length}
use Rattle.ordering.specs.Schedule.{key_at}
use Rattle.ordering.specs.Tree.{Joined, LeavesKept}
use Rattle.ordering.proofs.tree.join_all.Given as goal

abbrev pub invariant-loop-v : goal.invariant-loop-v
invariant-loop-v l = Joined (key_at l.keys) l.leaves l.nodes l.tree l.v 0 × (l.v ≤ l.leaves) × (1 ≤ l.v) × LeavesKept l.leaves l.initial.tree l.tree × (length l.tree ≡ length l.initial.tree)

abbrev pub decreases-loop-v : goal.decreases-loop-v
decreases-loop-v l = l.v
