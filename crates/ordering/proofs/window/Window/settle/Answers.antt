use mathlib.Core.Path.{◌∙◌}
use Rattle.ordering.proofs.Ranking.{fronted_then}
use Rattle.ordering.proofs.window.Window.settle.Goals as goal

pub returns : goal.returns
returns c = (c.widen.ensures.0, c.widen.ensures.1, c.widen.ensures.2 ∙ c.narrow-at.ensures.2, fronted_then _ _ _ _ c.narrow-at.ensures.3 c.widen.ensures.3)
