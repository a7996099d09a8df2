use mathlib.Core.Path.{◌∙◌}
use native.Mathlib.Omega.{arith}
use lib.ListN.{length-set}
use Rattle.ordering.proofs.Moving.{note_levels, noted_up, noted_down, noted-kept, noted-still, counted_few, counted_up, counted_down}
use Rattle.ordering.proofs.waiting.note.Goals as goal

pub mark_ready-requires : goal.mark_ready-requires
mark_ready-requires c = (simp length-set c.requires.room, c.requires.below, note_levels _ _ c.requires.room _ _ c.requires.below c.requires.levels)

pub with_cell-requires : goal.with_cell-requires
with_cell-requires c = omega (arith, counted_few _ _ _ c.requires.counted, c.requires.room)

pub shape_of-area-then-up : goal.shape_of-area-then-up
shape_of-area-then-up c = c.mark_ready.ensures.0.size ∙ length-set c.args.area.now _ _

pub returns-then-up : goal.returns-then-up
returns-then-up c = (noted_up _ _ c.requires.room _ _ c.requires.below _ c.if-up.true _ c.mark_ready.ensures.0, counted_up _ _ _ _ c.requires.below _ c.requires.counted c.requires.fresh _ c.mark_ready.ensures.0 _ c.with_cell.ensures.0 c.with_cell.ensures.1, noted-kept c.args.count c.args.area.now c.requires.room c.args.node c.args.left c.requires.below c.mark_ready.new.area c.mark_ready.ensures.1)

pub returns : goal.returns
returns c = (noted_down _ _ c.requires.room _ _ c.requires.below c.requires.levels _ c.if-up.false, counted_down _ _ _ _ c.requires.below _ c.requires.counted, noted-still c.args.count c.args.area.now c.requires.room c.args.node c.args.left c.requires.below)
