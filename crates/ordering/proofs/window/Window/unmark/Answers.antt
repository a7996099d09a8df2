use mathlib.Core.Path.{refl}
use native.Mathlib.Omega.{arith}
use Rattle.ordering.proofs.Keeping.{moved_fronted, moved_stale, moved_tracked, inside_some}
use Rattle.ordering.proofs.window.Window.unmark.Goals as goal

pub refresh-requires : goal.refresh-requires
refresh-requires c = (moved_stale c.args.count c.args.keys.now c.args.area.now c.args.self c.requires.0 c.args.node c.mark_ready.new.area c.mark_ready.ensures.1 c.mark_ready.ensures.0, omega (arith, c.requires.1, c.requires.0.ranked.bound), c.requires.3)

pub overflow_sub-result : goal.overflow_sub-result
overflow_sub-result c = (inside_some c.args.count c.args.keys.now c.args.area.now c.args.self c.requires.0 c.args.node c.requires.1 c.requires.2).0

pub overflow_sub-result-2 : goal.overflow_sub-result-2
overflow_sub-result-2 c = (inside_some c.args.count c.args.keys.now c.args.area.now c.args.self c.requires.0 c.args.node c.requires.1 c.requires.2).1

pub returns : goal.returns
returns c = (moved_fronted _ _ _ c.refresh.ensures.1 _ _ _ c.mark_ready.ensures.0, moved_tracked c.args.count c.args.keys.now c.args.area.now c.args.self c.requires.0 c.args.node c.mark_ready.new.area c.mark_ready.ensures.1 c.mark_ready.ensures.0 c.requires.1 c.requires.2 _ c.refresh.ensures.1 c.refresh.ensures.0 _ refl refl refl)
