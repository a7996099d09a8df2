use mathlib.Core.List.{[]}
use Rattle.std.proofs.lemmas.Option.{MatchOption-at_some}
use Rattle.ordering.proofs.Moving.{set_room, set_levels}
use Rattle.ordering.proofs.Scan.{picked_some, first_picked}
use Rattle.ordering.proofs.picking.first_ready.Goals as goal

pub next-requires : goal.next-requires
next-requires c = (set_room _ c.args.area.now c.requires.0, c.requires.3.low, set_levels _ _ c.requires.0 c.requires.1)

pub unwrap-requires : goal.unwrap-requires
unwrap-requires c = picked_some _ _ [] _ c.requires.3 c.requires.2 _ c.next.ensures

pub returns : goal.returns
returns c = let f = MatchOption-at_some _ _ _ c.unwrap.ensures c.next.ensures in first_picked _ _ [] _ c.requires.3 _ f.1 c.requires.2
