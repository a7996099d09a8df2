use Rattle.ordering.proofs.Moving.{set_room, set_levels, set_moved, set-kept}
use Rattle.ordering.proofs.waiting.mark_ready.Goals as goal

pub mark-requires : goal.mark-requires
mark-requires c = (set_room _ c.args.area.now c.requires.0, c.requires.1, set_levels _ _ c.requires.0 c.requires.2)

pub returns : goal.returns
returns c = (set_moved _ _ c.requires.0 _ _ _ c.mark.auto.area c.mark.ensures, set-kept _ _ c.requires.0 _ _ _ c.mark.ensures)
