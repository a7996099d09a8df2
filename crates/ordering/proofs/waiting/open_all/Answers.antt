use mathlib.Core.Path.{refl}
use native.Mathlib.Omega.{arith}
use Rattle.ordering.proofs.Moving.{counted_none}
use Rattle.ordering.proofs.Chains.{opening_start, opening_more, opening_end}
use Rattle.ordering.proofs.waiting.open_all.Goals as goal

pub loop-node-init : goal.loop-node-init
loop-node-init g c = (opening_start _ _ _ _ c.requires.3, counted_none _ _ c.requires.3 _ refl refl)

pub open-cells-requires : goal.open-cells-requires
open-cells-requires g c = (record { room = omega (arith, c.loop-node.invariant.0.size, c.requires.0); below = c.loop-node-test.true; levels = c.loop-node.invariant.0.levels; fresh = c.loop-node.invariant.0.later _ (omega arith) c.loop-node-test.true; counted = c.loop-node.invariant.1 }, c.requires.4)

pub loop-node-preserved : goal.loop-node-preserved
loop-node-preserved g c = (opening_more _ _ _ _ _ _ _ c.loop-node.invariant.0 c.loop-node-test.true c.open-cells.ensures.0, c.open-cells.ensures.1)

pub returns : goal.returns
returns g c = (opening_end _ _ (g.met.G.Graph.sourced c.args.graph.now) _ c.requires.4 _ _ _ _ c.loop-node.invariant.0 (omega arith) c.requires.0 c.requires.1 c.requires.2, c.loop-node.invariant.1)
