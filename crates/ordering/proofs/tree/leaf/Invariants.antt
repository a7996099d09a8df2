use Prim.Native.Nat.{◌-◌, ◌*◌, ◌+◌}
use Rattle.ordering.proofs.Leaf.{Scanned}
use Rattle.ordering.proofs.tree.leaf.Given as goal

abbrev pub invariant-loop-rest : goal.invariant-loop-rest
invariant-loop-rest l = Scanned l.ready l.keys l.limit l.w l.best l.i l.rest

abbrev pub decreases-loop-rest : goal.decreases-loop-rest
decreases-loop-rest l = 64 * l.w + 64 - l.i
