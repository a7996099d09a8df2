use mathlib.Core.Path.{sym}
use Rattle.schedule.proofs.Records.{length_in}
use Rattle.schedule.proofs.reads.NetlistGraph.count.Goals as goal

pub returns : goal.returns
returns c = sym (length_in c.args.self.now.nodes.words.now c.args.self.now.nodes.count)
