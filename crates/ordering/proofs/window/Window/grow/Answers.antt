use mathlib.Core.Path.{refl}
use native.Mathlib.Omega.{arith}
use Rattle.std.proofs.lemmas.Option.{MatchOption-at_some}
use Rattle.ordering.proofs.Windows.{next_some, grown_stale, grown}
use Rattle.ordering.proofs.window.Window.grow.Goals as goal

pub unwrap-node-requires : goal.unwrap-node-requires
unwrap-node-requires c = next_some c.args.count c.args.keys.now c.args.area.now c.args.self c.requires.0 c.requires.1 _ c.next.ensures

pub refresh-requires : goal.refresh-requires
refresh-requires c = let f = MatchOption-at_some _ _ _ c.unwrap-node.ensures c.next.ensures in (grown_stale c.args.count c.args.keys.now c.args.area.now c.args.self c.requires.0 c.requires.1 c.unwrap-node.result f.0 f.1, omega (arith, f.0), c.requires.2)

pub returns : goal.returns
returns c = let f = MatchOption-at_some _ _ _ c.unwrap-node.ensures c.next.ensures in (grown c.args.count c.args.keys.now c.args.area.now c.args.self c.requires.0 c.requires.1 c.unwrap-node.result f.0 f.1 _ c.refresh.ensures.1 c.refresh.ensures.0 _ refl refl refl, refl, refl, c.refresh.ensures.1)
