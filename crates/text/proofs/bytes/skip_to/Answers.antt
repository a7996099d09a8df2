use Prim.Native.Nat.{◌-◌}
use native.Mathlib.Omega.{arith}
use Rattle.laws.specs.Stretches.{stretch}
use Rattle.laws.proofs.Stretches.{length-stretch}
use Rattle.text.proofs.bytes.skip_to.Goals as goal

pub returns-else-is_ascii : goal.returns-else-is_ascii
unfolding stretch
returns-else-is_ascii c =
    let size = length-stretch c.args.text.now c.args.from (c.args.end - c.args.from) (omega arith) in
    (omega (arith, c.scan_byte.ensures.0), omega (arith, c.scan_byte.ensures.1, size))
