use mathlib.Core.Path.{◌∙◌}
use Rattle.ordering.proofs.Scan.{better_new, better_old}
use Rattle.ordering.proofs.Compare.{greater_is}
use Rattle.ordering.proofs.keys.Best.better.Goals as goal

pub returns-then-gt : goal.returns-then-gt
returns-then-gt c = rw c.of-other.ensures.0 (better_new _ _ _ _ _ c.of-other.ensures.1 c.requires.1 _ (c.gt.ensures ∙ greater_is _ _) c.if-gt.true, c.of-other.ensures.1)

pub returns-else-gt : goal.returns-else-gt
returns-else-gt c = (better_old _ _ _ _ _ c.of-other.ensures.1 c.requires.1 _ (c.gt.ensures ∙ greater_is _ _) c.if-gt.false, c.requires.1)
