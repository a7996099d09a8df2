use mathlib.Core.Path.{refl}
use native.Mathlib.Omega.{arith}
use Rattle.ordering.proofs.Keeping.{noted_fronted, tracked_counted, inside_few, lowered_waits, lowered_outside, lowered_stale, lowered_inside}
use Rattle.ordering.proofs.Moving.{counted_few}
use Rattle.ordering.proofs.window.Window.lower.Goals as goal

pub lower-number-requires : goal.lower-number-requires
lower-number-requires c = (record { room = c.requires.0.ranked.size; below = c.requires.1; levels = c.requires.0.levels; fresh = c.requires.2; counted = tracked_counted _ _ _ _ c.requires.0 }, c.requires.3)

pub returns-then-area-node-ne0 : goal.returns-then-area-node-ne0
returns-then-area-node-ne0 c = (c.lower-number.ensures.0, lowered_waits c.args.count c.args.keys.now c.args.area.now c.args.self c.requires.0 c.args.node c.lower-number.new.area c.lower-number.ensures.2 c.lower-number.ensures.0 c.if-area-node-ne0.true, refl)

pub returns-then-self-node : goal.returns-then-self-node
returns-then-self-node c = (c.lower-number.ensures.0, lowered_outside c.args.count c.args.keys.now c.args.area.now c.args.self c.requires.0 c.args.node c.lower-number.new.area c.lower-number.ensures.2 c.lower-number.ensures.0 _ c.lower-number.ensures.1 _ refl refl c.if-self-node.true refl, refl)

pub refresh-requires : goal.refresh-requires
refresh-requires c = (lowered_stale c.args.count c.args.keys.now c.args.area.now c.args.self c.requires.0 c.args.node c.lower-number.new.area c.lower-number.ensures.2 c.lower-number.ensures.0, omega (arith, c.requires.1), c.requires.4)

pub overflow_add-result : goal.overflow_add-result
overflow_add-result c = omega (arith, inside_few c.args.count c.args.keys.now c.args.area.now c.args.self c.requires.0, counted_few _ _ _ (tracked_counted c.args.count c.args.keys.now c.args.area.now c.args.self c.requires.0), c.requires.0.ranked.size)

pub returns : goal.returns
returns c = (noted_fronted _ _ _ c.refresh.ensures.1 _ _ _ _ c.requires.1 c.lower-number.ensures.0, lowered_inside c.args.count c.args.keys.now c.args.area.now c.args.self c.requires.0 c.args.node c.lower-number.new.area c.lower-number.ensures.2 c.lower-number.ensures.0 (omega (arith, c.if-self-node.false)) c.if-area-node-ne0.false c.requires.2 _ c.lower-number.ensures.1 _ c.refresh.ensures.1 c.refresh.ensures.0 _ refl refl refl, refl)
