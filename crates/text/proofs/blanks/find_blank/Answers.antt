use Prim.Native.Nat.{◌-◌}
use Rattle.std.proofs.Common.{arith}
use Rattle.laws.specs.Stretches.{stretch}
use Rattle.laws.proofs.Stretches.{length-stretch}
use Rattle.text.specs.declared.blanks.TheConstants.{FIRST_BLANK, LAST_BLANK}
use Rattle.text.specs.Blanks.{not_blank}
use Rattle.text.specs.Eights.{outside}
use Rattle.text.proofs.RunLaws.{run-from, not-blank}
use Rattle.text.proofs.blanks.find_blank.Goals as goal

pub returns : goal.returns
unfolding stretch
returns c =
    let left = run-from (outside FIRST_BLANK LAST_BLANK) not_blank not-blank c.args.text.now c.args.from c.args.end c.find_between-i.result c.find_between-i.ensures.0 in
    let size = length-stretch c.args.text.now c.find_between-i.result (c.args.end - c.find_between-i.result) (omega arith) in
    (omega (arith, c.scan_blank.ensures.0, left), omega (arith, c.scan_blank.ensures.1, size, c.find_between-i.ensures.1))
