use native.Mathlib.Omega.{arith}
use Prim.Native.Nat.{◌-◌}
use Rattle.laws.specs.Stretches.{stretch}
use Rattle.laws.proofs.Stretches.{run_end, length-stretch}
use Rattle.text.specs.Eights.{outside}
use Rattle.text.proofs.EightLaws.{stop_in, pass_eight}
use Rattle.text.proofs.eights.find_between.Goals as goal

pub loop-i-init : goal.loop-i-init
loop-i-init c = (omega arith, omega arith)

pub returns-then-text-i-lt8 : goal.returns-then-text-i-lt8
unfolding stretch
returns-then-text-i-lt8 c =
    let size = length-stretch c.args.text.now c.loop-i.i (c.args.end - c.loop-i.i) (omega arith) in
    (omega (arith, c.scan_between.ensures.0, c.loop-i.invariant.1), omega (arith, c.scan_between.ensures.1, size))

pub before_between-requires : goal.before_between-requires
before_between-requires c = omega arith

pub returns-then-n-lt8 : goal.returns-then-n-lt8
returns-then-n-lt8 c = (omega (arith, c.min.ensures, stop_in (outside c.args.limits.low c.args.limits.high) c.args.text.now c.loop-i.i c.args.end (omega arith) c.in-Some.n c.in-Some.ensures.0 c.if-n-lt8.true, c.loop-i.invariant.1), omega (arith, c.min.ensures))

pub returns-in_default : goal.returns-in_default
unfolding stretch
returns-in_default c =
    let size = length-stretch c.args.text.now c.loop-i.i (c.args.end - c.loop-i.i) (omega arith) in
    (omega (arith, c.scan_between-in_default.ensures.0, c.loop-i.invariant.1), omega (arith, c.scan_between-in_default.ensures.1, size))

pub loop-i-preserved : goal.loop-i-preserved
loop-i-preserved c = (omega arith, omega (arith, pass_eight (outside c.args.limits.low c.args.limits.high) c.args.text.now c.loop-i.i c.args.end (omega arith) c.in-Some.n c.in-Some.ensures.0 (omega arith), c.loop-i.invariant.1))

pub returns : goal.returns
returns c = (omega (arith, run_end (outside c.args.limits.low c.args.limits.high) c.args.text.now c.loop-i.i c.args.end c.loop-i-test.false, c.loop-i.invariant.1), omega arith)
