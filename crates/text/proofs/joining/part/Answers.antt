use mathlib.Core.Path.{ap, ◌∙◌}
use Rattle.text.specs.Blanks.{trim_end}
use Rattle.text.proofs.WriteLaws.{part_continued, part_whole}
use Rattle.text.proofs.joining.part.Goals as goal

pub returns-in-Some : goal.returns-in-Some
returns-in-Some c = c.trim_end.ensures ∙ ap trim_end c.in-Some.ensures.cases.1 ∙ part_continued c.args.line.now c.in-Some.ensures.cases.0

pub returns-in-None : goal.returns-in-None
returns-in-None c = part_whole c.args.line.now c.in-None.ensures.cases
