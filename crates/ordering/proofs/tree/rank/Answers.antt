use native.Mathlib.Omega.{arith}
use Rattle.ordering.proofs.Ranking.{ranked_part, ranked_whole}
use Rattle.ordering.proofs.tree.rank.Goals as goal

pub join_all-requires : goal.join_all-requires
join_all-requires c = rw (c.tree_at-base.ensures, c.leaves.ensures) (ranked_part _ _ _ _ _ c.requires.0 c.requires.1 c.requires.2 c.put_leaves.ensures, omega arith, c.requires.3)

pub returns : goal.returns
returns c = rw c.tree_at-base.ensures (ranked_whole _ _ _ _ _ c.requires.0 c.requires.1 c.requires.2 c.put_leaves.ensures _ (rw c.tree_at-base.ensures at c.join_all.auto.tree) (rw c.leaves.ensures at c.join_all.ensures.0) (rw (c.tree_at-base.ensures, c.leaves.ensures) at c.join_all.ensures.1))
