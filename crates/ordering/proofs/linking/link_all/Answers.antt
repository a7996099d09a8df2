use Prim.Native.Nat.{◌+◌, ◌*◌}
use mathlib.Core.Path.{refl, ap, ◌∙◌}
use native.Mathlib.Omega.{arith}
use lib.ListN.{length, drop}
use Rattle.ordering.proofs.Chains.{linked-start, linked_more, head_length, next-length, head_rest, source_le}
use Rattle.ordering.proofs.linking.link_all.Goals as goal

pub loop-done-init : goal.loop-done-init
loop-done-init g c = (linked-start _ _ _ _ c.requires.2, refl, refl, refl)

pub link-requires : goal.link-requires
link-requires g c = (omega (arith, c.source-from.ensures, c.count-done-end.ensures, source_le _ _ (g.met.G.Graph.sourced c.args.graph.now) (c.loop-done.done + 1) (omega arith) (omega arith)), omega arith)

pub loop-done-preserved : goal.loop-done-preserved
loop-done-preserved g c =
    let l = source_le _ _ (g.met.G.Graph.sourced c.args.graph.now) (c.loop-done.done + 1) (omega arith) (omega arith) in (
      linked_more _ _ _ _ _ _ _ _ c.loop-done.invariant.0 c.source-from.ensures (omega (arith, c.source-from.ensures, l)) (omega arith) (omega arith) c.link.ensures.0 c.link.ensures.1,
      ap length c.link.ensures.0 ∙ head_length _ _ _ ∙ c.loop-done.invariant.1,
      ap length c.link.ensures.1 ∙ next-length _ _ _ _ ∙ c.loop-done.invariant.2,
      ap (drop (2 * length (g.G.Graph.vertices c.args.graph.now))) c.link.ensures.0 ∙ head_rest c.loop-done.area (length (g.G.Graph.vertices c.args.graph.now)) (c.loop-done.done + 1) _ (omega (arith, c.source-from.ensures, l)) ∙ c.loop-done.invariant.3,
    )
