use mathlib.Core.Path.{refl, ◌∙◌}
use mathlib.Core.List.{[]}
use native.Mathlib.Omega.{arith}
use lib.ListN.{length-set}
use Rattle.ordering.proofs.Moving.{counted_over}
use Rattle.ordering.proofs.Steps.{took_start, took_pickable, took_room, took_releasable, took_more, took_over, drop_more}
use Rattle.ordering.proofs.taking.take_first.Goals as goal

pub loop-cells-init : goal.loop-cells-init
loop-cells-init c = (took_start _ _ _ _ _ _, omega arith, refl, refl, refl, c.requires.2)

pub first_ready-first-requires : goal.first_ready-first-requires
first_ready-first-requires c = let t = took_pickable _ _ _ _ _ _ _ _ c.loop-cells.invariant.0 c.requires.0 in (t.room, t.levels, omega (arith, c.loop-cells-test.true), c.loop-cells.invariant.5)

pub offset_bounds-order-taken : goal.offset_bounds-order-taken
offset_bounds-order-taken c = omega (arith, took_room _ _ _ _ _ _ _ _ c.loop-cells.invariant.0 c.loop-cells.invariant.1 _ (c.first_ready-first.ensures.picked []) c.requires.0)

pub bounds-order-taken : goal.bounds-order-taken
bounds-order-taken c = omega (arith, took_room _ _ _ _ _ _ _ _ c.loop-cells.invariant.0 c.loop-cells.invariant.1 _ (c.first_ready-first.ensures.picked []) c.requires.0, c.requires.1, c.loop-cells.invariant.2)

pub overflow_add-taken : goal.overflow_add-taken
overflow_add-taken c = omega (arith, took_room _ _ _ _ _ _ _ _ c.loop-cells.invariant.0 c.loop-cells.invariant.1 _ (c.first_ready-first.ensures.picked []) c.requires.0)

pub release-cells-requires : goal.release-cells-requires
release-cells-requires c = (took_releasable _ _ _ _ _ _ _ _ c.loop-cells.invariant.0 c.loop-cells.invariant.1 _ (c.first_ready-first.ensures.picked []) c.requires.0, record { low = c.first_ready-first.ensures.low; none = c.first_ready-first.ensures.none; number = c.loop-cells.invariant.5.number })

pub loop-cells-smaller : goal.loop-cells-smaller
loop-cells-smaller c = omega (arith, took_room _ _ _ _ _ _ _ _ c.loop-cells.invariant.0 c.loop-cells.invariant.1 _ (c.first_ready-first.ensures.picked []) c.requires.0)

pub loop-cells-preserved : goal.loop-cells-preserved
loop-cells-preserved c = let r = took_room _ _ _ _ _ _ _ _ c.loop-cells.invariant.0 c.loop-cells.invariant.1 _ (c.first_ready-first.ensures.picked []) c.requires.0 in (took_more _ _ _ _ _ _ _ _ c.loop-cells.invariant.0 c.loop-cells.invariant.1 _ (c.first_ready-first.ensures.picked []) (omega (arith, r, c.requires.1, c.loop-cells.invariant.2)) _ c.release-cells.ensures.0, simp length-set (omega (arith, r, c.requires.1, c.loop-cells.invariant.2)), simp length-set c.loop-cells.invariant.2, c.release-cells.auto.area ∙ c.loop-cells.invariant.3, drop_more c.loop-cells.order c.args.order.now c.loop-cells.taken _ c.loop-cells.invariant.4, c.release-cells.ensures.1)

pub returns : goal.returns
returns c = (took_over _ _ _ _ _ _ _ _ c.loop-cells.invariant.0 c.loop-cells.invariant.1 (counted_over _ _ _ c.loop-cells.invariant.5 c.loop-cells-test.false), c.loop-cells.invariant.4)
