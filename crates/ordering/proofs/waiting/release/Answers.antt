use mathlib.Core.Path.{refl, ◌∙◌}
use native.Mathlib.Omega.{arith}
use Rattle.ordering.proofs.Moving.{counted_taken, counted-some}
use Rattle.ordering.proofs.Freeing.{takable, safe, descend_none, descend_more, descended, releasable_room}
use Rattle.ordering.proofs.waiting.release.Goals as goal

pub overflow_mul-edge : goal.overflow_mul-edge
overflow_mul-edge c = omega (arith, releasable_room _ _ _ _ c.requires.0)

pub overflow_add-edge : goal.overflow_add-edge
overflow_add-edge c = omega (arith, releasable_room _ _ _ _ c.requires.0)

pub offset_bounds-area-node : goal.offset_bounds-area-node
offset_bounds-area-node c = omega (arith, releasable_room _ _ _ _ c.requires.0)

pub bounds-area-node : goal.bounds-area-node
bounds-area-node c = omega (arith, releasable_room _ _ _ _ c.requires.0)

pub loop-edge-init : goal.loop-edge-init
loop-edge-init c = (descend_none _ _ _ _ _, refl, c.requires.1)

pub lower-left-requires : goal.lower-left-requires
lower-left-requires c = let s = safe _ _ _ _ _ _ c.loop-edge.invariant.0 c.requires.0 c.loop-edge-test.true in (record { room = s.room; below = s.reader; levels = s.levels; fresh = s.fresh; counted = c.loop-edge.invariant.2 }, s.some)

pub offset_bounds-next-edge : goal.offset_bounds-next-edge
offset_bounds-next-edge c = let s = safe _ _ _ _ _ _ c.loop-edge.invariant.0 c.requires.0 c.loop-edge-test.true in omega (arith, s.there)

pub bounds-next-edge : goal.bounds-next-edge
bounds-next-edge c = (safe _ _ _ _ _ _ c.loop-edge.invariant.0 c.requires.0 c.loop-edge-test.true).there

pub loop-edge-smaller : goal.loop-edge-smaller
loop-edge-smaller c = (safe _ _ _ _ _ _ c.loop-edge.invariant.0 c.requires.0 c.loop-edge-test.true).down

pub loop-edge-preserved : goal.loop-edge-preserved
loop-edge-preserved c = (descend_more _ _ _ _ _ _ _ _ c.loop-edge.invariant.0 c.loop-edge-test.true c.lower-left.ensures.0, c.lower-left.ensures.0.size ∙ c.loop-edge.invariant.1, c.lower-left.ensures.1)

pub mark_ready-requires : goal.mark_ready-requires
mark_ready-requires c = let t = takable _ _ _ _ _ _ c.loop-edge.invariant.0 c.requires.0 in (t.room, t.below, t.levels)

pub overflow_sub-result : goal.overflow_sub-result
overflow_sub-result c = let t = takable _ _ _ _ _ _ c.loop-edge.invariant.0 c.requires.0 in counted-some _ _ _ c.loop-edge.invariant.2 _ t.below t.flag

pub returns : goal.returns
returns c = let t = takable _ _ _ _ _ _ c.loop-edge.invariant.0 c.requires.0 in (descended _ _ _ _ _ _ c.loop-edge.invariant.0 c.loop-edge-test.false _ c.mark_ready.ensures.0, counted_taken _ _ _ t.below _ c.loop-edge.invariant.2 t.flag _ c.mark_ready.ensures.0 _ refl refl)
