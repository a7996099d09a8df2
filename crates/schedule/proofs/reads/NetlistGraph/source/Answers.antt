use Rattle.std.proofs.Common.{arith}
use Rattle.schedule.proofs.Records.{length_in}
use Rattle.schedule.proofs.reads.NetlistGraph.source.Goals as goal

pub cell_read-requires : goal.cell_read-requires
cell_read-requires c = omega (arith, c.requires, length_in c.args.self.now.nodes.words.now c.args.self.now.nodes.count)
