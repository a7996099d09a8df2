use Rattle.ordering.proofs.Winners.{ahead_none, ahead_alone, ahead_of}
use Rattle.ordering.proofs.tree.better_entry.Goals as goal

pub returns-then-a-eq0 : goal.returns-then-a-eq0
returns-then-a-eq0 c = ahead_none _ _ _ c.if-a-eq0.true

pub returns-then-b-eq0 : goal.returns-then-b-eq0
returns-then-b-eq0 c = ahead_alone _ _ _ c.if-b-eq0.true

pub returns : goal.returns
returns c = ahead_of _ _ _ _ c.if-a-eq0.false c.if-b-eq0.false (rw (c.min.ensures, c.max.ensures) at c.first_of.ensures)
