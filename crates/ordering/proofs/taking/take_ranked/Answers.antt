use mathlib.Core.Path.{refl, ◌∙◌}
use native.Mathlib.Omega.{arith}
use lib.ListN.{length-set}
use Rattle.std.specs.Int.NonZero.{non_zero_usize_get}
use Rattle.ordering.proofs.Moving.{counted_over}
use Rattle.ordering.proofs.Keeping.{tracked_counted}
use Rattle.ordering.proofs.Windows.{window_picked, window_below}
use Rattle.ordering.proofs.Steps.{onward_over, onward_more, onward_fronted, root_picked, root_room, root_releasable, drop_more}
use Rattle.ordering.proofs.taking.take_ranked.Goals as goal

pub loop-at-init : goal.loop-at-init
loop-at-init c = ((λ _ _ t. t), c.requires.3, refl, refl, omega arith, refl, c.requires.4, c.requires.5, omega (arith, c.tree_at-root.ensures))

pub overflow_sub-node : goal.overflow_sub-node
overflow_sub-node c = rw c.loop-at.invariant.8 (window_picked c.args.count c.args.keys.now c.loop-at.area c.loop-at.at c.loop-at.invariant.6 (non_zero_usize_get c.args.window) c.loop-at.invariant.7 c.args.window.ok c.loop-at-test.true).0

pub offset_bounds-order-taken : goal.offset_bounds-order-taken
offset_bounds-order-taken c = omega (arith, root_room _ _ _ _ _ _ _ _ _ _ c.loop-at.invariant.0 c.loop-at.invariant.1 c.requires.0 _ c.loop-at.invariant.6 c.loop-at.invariant.7 c.args.window.ok c.loop-at-test.true)

pub bounds-order-taken : goal.bounds-order-taken
bounds-order-taken c = omega (arith, root_room _ _ _ _ _ _ _ _ _ _ c.loop-at.invariant.0 c.loop-at.invariant.1 c.requires.0 _ c.loop-at.invariant.6 c.loop-at.invariant.7 c.args.window.ok c.loop-at-test.true, c.loop-at.invariant.2, c.requires.2)

pub overflow_add-taken : goal.overflow_add-taken
overflow_add-taken c = omega (arith, root_room _ _ _ _ _ _ _ _ _ _ c.loop-at.invariant.0 c.loop-at.invariant.1 c.requires.0 _ c.loop-at.invariant.6 c.loop-at.invariant.7 c.args.window.ok c.loop-at-test.true)

pub release-left-requires : goal.release-left-requires
release-left-requires c = rw c.loop-at.invariant.8 (root_releasable _ _ _ _ _ _ _ _ _ _ c.loop-at.invariant.0 c.loop-at.invariant.1 c.requires.0 _ c.loop-at.invariant.6 c.loop-at.invariant.7 c.args.window.ok c.loop-at-test.true, c.loop-at.invariant.6, window_below c.args.count c.args.keys.now c.loop-at.area c.loop-at.at c.loop-at.invariant.6 (non_zero_usize_get c.args.window) c.loop-at.invariant.7 c.args.window.ok c.loop-at-test.true, c.requires.1)

pub loop-at-smaller : goal.loop-at-smaller
loop-at-smaller c = omega (arith, root_room _ _ _ _ _ _ _ _ _ _ c.loop-at.invariant.0 c.loop-at.invariant.1 c.requires.0 _ c.loop-at.invariant.6 c.loop-at.invariant.7 c.args.window.ok c.loop-at-test.true)

pub loop-at-preserved : goal.loop-at-preserved
loop-at-preserved c = let p = root_picked _ _ _ _ _ _ _ _ _ _ c.loop-at.invariant.0 c.loop-at.invariant.1 c.requires.0 _ c.loop-at.invariant.6 c.loop-at.invariant.7 c.args.window.ok c.loop-at-test.true in let r = root_room _ _ _ _ _ _ _ _ _ _ c.loop-at.invariant.0 c.loop-at.invariant.1 c.requires.0 _ c.loop-at.invariant.6 c.loop-at.invariant.7 c.args.window.ok c.loop-at-test.true in (onward_fronted _ _ _ _ _ _ _ _ _ _ _ c.settle-at.ensures.3 (onward_more _ _ _ _ _ _ _ _ _ _ c.loop-at.invariant.0 c.loop-at.invariant.1 _ (rw (← c.loop-at.invariant.8) at p) (omega (arith, r, c.requires.2, c.loop-at.invariant.2)) _ c.release-left.ensures.0), simp length-set (omega (arith, r, c.requires.2, c.loop-at.invariant.2)), simp length-set c.loop-at.invariant.2, c.settle-at.auto.area ∙ c.release-left.auto.area ∙ c.loop-at.invariant.3, omega (arith, c.loop-at.invariant.4), drop_more c.loop-at.order c.args.order.now c.loop-at.taken _ c.loop-at.invariant.5, c.settle-at.ensures.0, rw c.get.ensures.value at c.settle-at.ensures.1, c.loop-at.invariant.8)

pub returns : goal.returns
returns c = (onward_over _ _ _ _ _ _ _ _ _ _ c.loop-at.invariant.0 c.loop-at.invariant.1 (counted_over _ _ _ (tracked_counted _ _ _ _ c.loop-at.invariant.6) c.loop-at-test.false), (c.loop-at.invariant.4, c.loop-at.invariant.5))
