use native.Mathlib.Omega.{arith}
use Rattle.ordering.proofs.Leaf.{scanned_start, scanned_over, bit-room, scanned_limit, scanned_more}
use Rattle.ordering.proofs.tree.leaf.Goals as goal

pub loop-rest-init : goal.loop-rest-init
loop-rest-init c = scanned_start _ _ _ _ (omega (arith, c.type_inv.ready c.args.w))

pub overflow_cast-t : goal.overflow_cast-t
overflow_cast-t c = record { fits = omega (arith, bit-room _ _ _ _ _ _ _ c.loop-rest.invariant c.loop-rest-test.true, c.loop-rest.invariant.low) }

pub overflow_add-node : goal.overflow_add-node
overflow_add-node c = record { fits = omega (arith, bit-room _ _ _ _ _ _ _ c.loop-rest.invariant c.loop-rest-test.true, c.requires.1) }

pub overflow_shr-rest : goal.overflow_shr-rest
overflow_shr-rest c = omega (arith, bit-room _ _ _ _ _ _ _ c.loop-rest.invariant c.loop-rest-test.true, c.loop-rest.invariant.low)

pub loop-rest-smaller : goal.loop-rest-smaller
loop-rest-smaller c = omega (arith, bit-room _ _ _ _ _ _ _ c.loop-rest.invariant c.loop-rest-test.true)

pub loop-rest-preserved : goal.loop-rest-preserved
loop-rest-preserved c = rw c.better_entry-best.ensures (scanned_more _ _ _ _ _ _ _ c.loop-rest.invariant c.loop-rest-test.true c.if-limit-node.false)

pub returns-after-loop-rest : goal.returns-after-loop-rest
returns-after-loop-rest c = scanned_over _ _ _ _ _ _ _ c.loop-rest.invariant c.loop-rest-test.false

pub returns-then-limit-node : goal.returns-then-limit-node
returns-then-limit-node c = scanned_limit _ _ _ _ _ _ _ c.loop-rest.invariant c.loop-rest-test.true c.if-limit-node.true
