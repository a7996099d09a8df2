use mathlib.Core.Path.{refl, ◌∙◌}
use native.Mathlib.Omega.{arith}
use Rattle.ordering.proofs.Freeing.{takable, safe, descend_none, descend_more, descended, releasable_room}
use Rattle.ordering.proofs.window.Window.release.Goals as goal

pub overflow_mul-edge : goal.overflow_mul-edge
overflow_mul-edge c = omega (arith, releasable_room _ _ _ _ c.requires.0)

pub overflow_add-edge : goal.overflow_add-edge
overflow_add-edge c = omega (arith, releasable_room _ _ _ _ c.requires.0)

pub offset_bounds-area-node : goal.offset_bounds-area-node
offset_bounds-area-node c = omega (arith, releasable_room _ _ _ _ c.requires.0)

pub bounds-area-node : goal.bounds-area-node
bounds-area-node c = omega (arith, releasable_room _ _ _ _ c.requires.0)

pub loop-edge-init : goal.loop-edge-init
loop-edge-init c = (descend_none _ _ _ _ _, refl, c.requires.1, refl)

pub lower-at-requires : goal.lower-at-requires
lower-at-requires c = let s = safe _ _ _ _ _ _ c.loop-edge.invariant.0 c.requires.0 c.loop-edge-test.true in (c.loop-edge.invariant.2, s.reader, s.fresh, s.some, c.requires.3)

pub offset_bounds-next-edge : goal.offset_bounds-next-edge
offset_bounds-next-edge c = let s = safe _ _ _ _ _ _ c.loop-edge.invariant.0 c.requires.0 c.loop-edge-test.true in omega (arith, s.there)

pub bounds-next-edge : goal.bounds-next-edge
bounds-next-edge c = (safe _ _ _ _ _ _ c.loop-edge.invariant.0 c.requires.0 c.loop-edge-test.true).there

pub loop-edge-smaller : goal.loop-edge-smaller
loop-edge-smaller c = (safe _ _ _ _ _ _ c.loop-edge.invariant.0 c.requires.0 c.loop-edge-test.true).down

pub loop-edge-preserved : goal.loop-edge-preserved
loop-edge-preserved c = (descend_more _ _ _ _ _ _ _ _ c.loop-edge.invariant.0 c.loop-edge-test.true c.lower-at.ensures.0, c.lower-at.ensures.0.size ∙ c.loop-edge.invariant.1, c.lower-at.ensures.1, c.lower-at.ensures.2 ∙ c.loop-edge.invariant.3)

pub unmark-requires : goal.unmark-requires
unmark-requires c = let t = takable _ _ _ _ _ _ c.loop-edge.invariant.0 c.requires.0 in (c.loop-edge.invariant.2, omega (arith, c.loop-edge.invariant.3, c.requires.2), t.flag, c.requires.3)

pub returns : goal.returns
returns c = (descended _ _ _ _ _ _ c.loop-edge.invariant.0 c.loop-edge-test.false _ c.unmark.ensures.0, c.unmark.ensures.1)
