use Rattle.text.proofs.LineLaws.{comment_on}
use Rattle.text.proofs.lines.next_comment.Goals as goal

pub returns-then-at-last : goal.returns-then-at-last
returns-then-at-last c = comment_on c.args.text.now c.args.at c.args.last c.requires.0 c.requires.1 c.if-at-last.true
