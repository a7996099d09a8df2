use native.Mathlib.Omega.{arith}
use Rattle.ordering.proofs.Ranking.{leaf_room, leaf_put}
use Rattle.ordering.proofs.tree.put_leaf.Goals as goal

pub leaf-best-requires : goal.leaf-best-requires
leaf-best-requires c = (leaf_room c.args.count c.args.limit c.args.keys.now c.args.area.now _ c.requires.0.0 c.requires.0.2 c.requires.1, omega (arith, c.requires.0.3, c.requires.1), omega (arith, c.requires.0.1, c.requires.0.3))

pub returns : goal.returns
returns c = rw (c.tree_at.ensures, c.leaves.ensures) (leaf_put _ _ _ _ _ c.requires.0.0 c.requires.0.2 c.requires.1 _ c.leaf-best.ensures)
