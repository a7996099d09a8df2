use Rattle.ordering.proofs.Ranking.{fronted_then}
use Rattle.ordering.proofs.Windows.{first-bound, first_tracked}
use Rattle.ordering.proofs.window.Window.ranked.Goals as goal

pub rank-requires : goal.rank-requires
rank-requires c = (c.requires.0, first-bound _ _ _ c.first-first.ensures, c.requires.1, c.requires.2)

pub settle-requires : goal.settle-requires
settle-requires c = (first_tracked _ _ _ _ _ _ c.first-first.ensures c.requires.4 c.requires.3 c.rank.ensures.1 c.rank.ensures.0, c.requires.2)

pub returns : goal.returns
returns c = (c.settle.ensures.0, c.settle.ensures.1, fronted_then _ _ _ _ c.rank.ensures.1 c.settle.ensures.3)
