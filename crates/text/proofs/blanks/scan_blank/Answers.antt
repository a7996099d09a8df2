use mathlib.Core.Bool.{not-not}
use mathlib.Core.Path.{sym, ◌∙◌}
use Rattle.text.specs.Blanks.{not_blank}
use Rattle.text.proofs.blanks.scan_blank.Goals as goal

pub returns : goal.returns
returns c = (c.find_where.ensures.first not_blank (λ b r l h. h ∙ sym (not-not _)), c.find_where.ensures.last)
