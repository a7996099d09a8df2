use Rattle.text.proofs.WriteLaws.{ends_continued}
use Rattle.text.proofs.joining.is_continued.Goals as goal
use mathlib.Core.Path.{◌∙◌}

pub returns : goal.returns
returns c = c.ends_with.ensures.value ∙ ends_continued c.args.line.now
