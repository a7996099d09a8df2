use mathlib.Core.Path.{◌∙◌}
use native.Mathlib.Omega.{arith}
use Rattle.ordering.proofs.Moving.{counted_over}
use Rattle.ordering.proofs.Steps.{took_over, took_pickable, took_fronted, drop-later}
use Rattle.ordering.proofs.taking.take_all.Goals as goal

pub returns-then-first-eq0 : goal.returns-then-first-eq0
returns-then-first-eq0 c = (took_over _ _ _ _ _ _ _ _ c.take_scanning-first.ensures.0 c.take_scanning-first.ensures.1 (counted_over _ _ _ c.take_scanning-first.ensures.3 c.if-first-eq0.true), c.take_scanning-first.ensures.2)

pub ranked-at-requires : goal.ranked-at-requires
ranked-at-requires c = let t = took_pickable _ _ _ _ _ _ _ _ c.take_scanning-first.ensures.0 c.requires.0 in (c.take_scanning-first.ensures.4 c.if-first-eq0.false, t.room, c.requires.1, t.levels, c.take_scanning-first.ensures.3)

pub take_ranked-requires : goal.take_ranked-requires
take_ranked-requires c = (record { start = c.args.area.now; startable = c.requires.0; took = took_fronted _ _ _ _ _ _ _ _ _ c.ranked-at.ensures.2 c.take_scanning-first.ensures.0 }, c.requires.1, omega (arith, c.requires.2, c.take_scanning-first.auto.area), c.take_scanning-first.ensures.1, c.ranked-at.ensures.0, rw c.get.ensures.value at c.ranked-at.ensures.1)

pub returns : goal.returns
returns c = (c.take_ranked.ensures.0 c.args.area.now c.requires.0 (took_fronted _ _ _ _ _ _ _ _ _ c.ranked-at.ensures.2 c.take_scanning-first.ensures.0), c.take_ranked.ensures.1.1 ∙ drop-later _ _ _ _ c.take_ranked.ensures.1.0 c.take_scanning-first.ensures.2)
