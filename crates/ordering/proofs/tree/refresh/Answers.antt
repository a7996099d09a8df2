use native.Mathlib.Omega.{arith}
use Rattle.ordering.proofs.Ranking.{refreshed_joined, refreshed}
use Rattle.ordering.proofs.tree.refresh.Goals as goal

pub climb-requires : goal.climb-requires
climb-requires c = rw (c.tree_at-base.ensures, c.leaves-leaves.ensures) (refreshed_joined _ _ _ _ _ _ c.requires.0 c.requires.1 c.put_leaf.ensures, omega (arith, c.requires.1), c.requires.2)

pub returns : goal.returns
returns c = rw c.tree_at-base.ensures (refreshed _ _ _ _ _ _ c.requires.0 c.requires.1 c.put_leaf.ensures _ (rw c.tree_at-base.ensures at c.climb.auto.tree) (rw c.leaves-leaves.ensures at c.climb.ensures.0) (rw (c.tree_at-base.ensures, c.leaves-leaves.ensures) at c.climb.ensures.1))
