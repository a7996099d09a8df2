use Rattle.text.proofs.LineLaws.{lines_start}
use Rattle.text.proofs.iterators.lines_of.Goals as goal

pub returns-clause-all : goal.returns-clause-all
returns-clause-all c = lines_start c.args.text.now
