use Rattle.std.proofs.Common.{rules}
use Rattle.text.specs.Blanks.{is_blank}
use Rattle.text.proofs.blanks.skip_blanks.Goals as goal

pub returns : goal.returns
returns c = (c.find_where.ensures.first is_blank (λ b r l h. search rules), c.find_where.ensures.last)
