use Rattle.ordering.specs.Tree.{LeavesPut}
use Rattle.ordering.proofs.tree.put_leaves.Given as goal

abbrev pub invariant-loop-w : goal.invariant-loop-w
invariant-loop-w l = LeavesPut l.count l.limit l.keys l.initial.area l.w l.area
