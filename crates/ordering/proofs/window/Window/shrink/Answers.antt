use mathlib.Core.Path.{refl}
use native.Mathlib.Omega.{arith}
use Rattle.std.proofs.lemmas.Option.{MatchOption-at_some}
use Rattle.ordering.proofs.Windows.{last_some, end_below, shrunk_stale, shrunk}
use Rattle.ordering.proofs.window.Window.shrink.Goals as goal

pub unwrap-limit-requires : goal.unwrap-limit-requires
unwrap-limit-requires c = last_some c.args.count c.args.keys.now c.args.area.now c.args.self c.requires.0 c.requires.1 _ c.last.ensures

pub refresh-requires : goal.refresh-requires
refresh-requires c = let l = MatchOption-at_some _ _ _ c.unwrap-limit.ensures c.last.ensures in (shrunk_stale c.args.count c.args.keys.now c.args.area.now c.args.self c.requires.0 c.requires.1 c.unwrap-limit.result l, omega (arith, end_below c.args.count c.args.keys.now c.args.area.now c.args.self c.requires.0 c.requires.1 c.unwrap-limit.result l), c.requires.2)

pub returns : goal.returns
returns c = (shrunk c.args.count c.args.keys.now c.args.area.now c.args.self c.requires.0 c.requires.1 c.unwrap-limit.result (MatchOption-at_some _ _ _ c.unwrap-limit.ensures c.last.ensures) _ c.refresh.ensures.1 c.refresh.ensures.0 _ refl refl refl, refl, refl, c.refresh.ensures.1)
