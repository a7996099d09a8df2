use native.Mathlib.Omega.{arith}
use Rattle.ordering.proofs.Ranking.{leaves_none, leaves_more, leaves_all}
use Rattle.ordering.proofs.tree.put_leaves.Goals as goal

pub loop-w-init : goal.loop-w-init
loop-w-init c = leaves_none _ _ _ _

pub loop-w-preserved : goal.loop-w-preserved
loop-w-preserved c = leaves_more _ _ _ _ _ _ _ (omega (arith, c.loop-w-test.true, c.leaves-w-end.ensures)) c.loop-w.invariant c.put_leaf.ensures

pub returns : goal.returns
returns c = leaves_all _ _ _ _ _ _ (omega (arith, c.leaves-w-end.ensures)) c.loop-w.invariant
