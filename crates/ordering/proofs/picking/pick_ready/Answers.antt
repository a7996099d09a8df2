use mathlib.Core.Path.{refl, ◌∙◌}
use native.Mathlib.Omega.{arith}
use Rattle.ordering.proofs.Scan.{scan_start, scan_take, scan_over}
use Rattle.ordering.proofs.picking.pick_ready.Goals as goal

pub loop-node-init : goal.loop-node-init
loop-node-init c =
    rw (c.into_iter-node-iterator.ensures.into_iter_gives, c.take-node-items.ensures.source, c.take-node-items.ensures.count, c.of-best.ensures.0) (
      record { words = λ w. omega (arith, c.type_inv.set w); room = c.requires.0; within = omega (arith, c.requires.3); levels = c.requires.2; rest_is = λ z. absurd (z refl) },
      tt,
      refl,
      c.of-best.ensures.1,
      scan_start _ _ _ _ _ c.requires.4 c.requires.3,
    )

pub loop-node-preserved : goal.loop-node-preserved
loop-node-preserved c =
    let s = c.in-Some.ensures.steps in
    (c.in-Some.ensures.goes.keeps, tt, s.0.same_nodes ∙ c.loop-node.invariant.2, c.better-best.ensures.1, rw c.better-best.ensures.0 (scan_take _ _ _ _ _ _ _ c.loop-node.invariant.4 _ _ _ s.0.first s.1))

pub returns : goal.returns
returns c = scan_over _ _ _ _ _ _ _ c.loop-node.invariant.4 (λ h. (c.in-None.ensures.steps h).first.0)
