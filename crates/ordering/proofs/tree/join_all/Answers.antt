use Prim.Native.Nat.{◌-◌}
use native.Mathlib.Omega.{arith}
use lib.ListN.{length-set}
use Rattle.ordering.specs.Schedule.{key_at}
use Rattle.ordering.proofs.Climb.{join_down, join_down_needs, leaves_then, joined-one}
use Rattle.ordering.proofs.tree.join_all.Goals as goal

pub join-requires : goal.join-requires
join-requires c = join_down_needs _ _ _ _ _ (omega arith) (omega (arith, c.loop-v.invariant.1)) _ (omega arith) c.loop-v.invariant.0 _ c.requires.2

pub loop-v-preserved : goal.loop-v-preserved
loop-v-preserved c = rw c.join.ensures.0 (join_down _ _ _ _ _ (omega arith) (omega (arith, c.loop-v.invariant.1)) _ (omega arith) c.loop-v.invariant.0, omega (arith, c.loop-v.invariant.1), omega arith, leaves_then (key_at c.args.keys.now) c.args.leaves c.args.nodes c.loop-v.tree (c.loop-v.v - 1) (omega arith) (omega (arith, c.loop-v.invariant.1)) c.args.tree.now c.loop-v.invariant.3, simp length-set c.loop-v.invariant.4)

pub returns : goal.returns
returns c = (joined-one _ _ _ _ _ (omega (arith, c.loop-v.invariant.2)) c.loop-v.invariant.0, c.loop-v.invariant.3)
