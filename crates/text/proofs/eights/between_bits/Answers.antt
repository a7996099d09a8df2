use Rattle.text.proofs.EightLaws.{between-bits}
use Rattle.text.proofs.eights.between_bits.Goals as goal

pub returns : goal.returns
returns c = between-bits c.args.limits.low c.args.limits.high c.args.word c.args.limits.ascii.0 c.args.limits.ascii.1
