use Rattle.std.proofs.Common.{rules}
use Rattle.laws.specs.Stretches.{is_not}
use Rattle.text.proofs.bytes.scan_byte.Goals as goal

pub returns : goal.returns
returns c = (c.find_where.ensures.first (is_not c.args.x) (λ b r l h. search rules), c.find_where.ensures.last)
