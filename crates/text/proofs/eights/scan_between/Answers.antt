use Rattle.std.proofs.Common.{rules}
use Rattle.text.specs.Eights.{outside}
use Rattle.text.proofs.eights.scan_between.Goals as goal

pub returns : goal.returns
returns c = (c.find_where.ensures.first (outside c.args.low c.args.high) (λ b r l h. search rules), c.find_where.ensures.last)
