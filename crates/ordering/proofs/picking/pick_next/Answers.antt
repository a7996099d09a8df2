use mathlib.Core.Path.{refl}
use native.Mathlib.Omega.{arith}
use Rattle.std.proofs.lemmas.Option.{MatchOption-at_some}
use Rattle.ordering.proofs.Moving.{set_room, set_levels}
use Rattle.ordering.proofs.Scan.{picked_some, picked_first, picked_is}
use Rattle.ordering.proofs.picking.pick_next.Goals as goal

pub next-requires : goal.next-requires
next-requires c = (set_room _ c.args.area.now c.requires.0, c.requires.4.low, set_levels _ _ c.requires.0 c.requires.2)

pub unwrap-first-requires : goal.unwrap-first-requires
unwrap-first-requires c = picked_some _ _ c.args.keys.now _ c.requires.4 c.requires.3 _ c.next.ensures

pub pick_ready-node-requires : goal.pick_ready-node-requires
pick_ready-node-requires c = let f = MatchOption-at_some _ _ _ c.unwrap-first.ensures c.next.ensures in (set_room _ c.args.area.now c.requires.0, c.requires.1, set_levels _ _ c.requires.0 c.requires.2, f.0, picked_first _ _ c.args.keys.now _ c.requires.4 _ f.1)

pub returns : goal.returns
returns c = let f = MatchOption-at_some _ _ _ c.unwrap-first.ensures c.next.ensures in picked_is _ _ c.args.keys.now _ c.requires.4 _ f.1 c.requires.3 _ _ (rw c.get.ensures.value at c.min-most.ensures) (omega (arith, c.min-most.ensures, c.get.ensures.nonzero, c.requires.3)) _ c.pick_ready-node.ensures _ refl refl
