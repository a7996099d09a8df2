use Rattle.std.proofs.Common.{refl, arith}
use Rattle.runs.proofs.Stepping.{inside, entry_sound, gone_next, gone_all}
use Rattle.runs.proofs.steps.run_steps.Goals as goal

pub loop-x-init : goal.loop-x-init
loop-x-init c = record { same = refl; whole = refl; sound = c.requires.sound }

pub step-requires : goal.step-requires
step-requires c =
    let below = inside _ _ _ _ _ _ c.loop-x.invariant c.loop-x-test.true in
    record {
      inside = (below, omega (arith, below));
      sound = entry_sound _ _ _ _ _ _ c.loop-x.invariant c.loop-x-test.true;
    }

pub loop-x-preserved : goal.loop-x-preserved
loop-x-preserved c = gone_next _ _ _ _ _ _ c.loop-x.invariant c.loop-x-test.true _ c.step.ensures

pub returns : goal.returns
returns c = gone_all _ _ _ _ _ _ c.loop-x.invariant c.loop-x-test.false
