use Rattle.ordering.proofs.Moving.{opened_is}
use Rattle.ordering.proofs.waiting.open.Goals as goal

pub returns : goal.returns
returns g c = (opened_is _ _ _ _ _ _ _ _ _ c.cells_read-left.ensures c.is_cell.ensures c.is_ready-up.ensures c.note.ensures.0, c.note.ensures.1)
