use native.Mathlib.Omega.{arith}
use lib.ListN.{length-set}
use Rattle.ordering.specs.Schedule.{key_at}
use Rattle.ordering.proofs.Climb.{join_turn, join_needs, leaves_then}
use Rattle.ordering.proofs.tree.climb.Goals as goal

pub join-requires : goal.join-requires
join-requires c = join_needs _ _ _ _ _ (omega (arith, c.loop-v-test.true)) c.loop-v.invariant.1 c.loop-v.invariant.0 _ c.requires.2

pub loop-v-preserved : goal.loop-v-preserved
loop-v-preserved c = rw c.join.ensures.0 (join_turn _ _ _ _ _ (omega (arith, c.loop-v-test.true)) c.loop-v.invariant.1 c.loop-v.invariant.0, omega (arith, c.loop-v.invariant.1), leaves_then (key_at c.args.keys.now) c.args.leaves c.args.nodes c.loop-v.tree c.loop-v.v (omega (arith, c.loop-v-test.true)) c.loop-v.invariant.1 c.args.tree.now c.loop-v.invariant.2, simp length-set c.loop-v.invariant.3)
