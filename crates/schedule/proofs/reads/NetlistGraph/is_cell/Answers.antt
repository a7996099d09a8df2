use Rattle.std.proofs.Common.{sym, arith, ◌∙◌}
use Rattle.schedule.proofs.Records.{length_in, cell-is}
use Rattle.schedule.proofs.reads.NetlistGraph.is_cell.Goals as goal

pub is_cell-requires : goal.is_cell-requires
is_cell-requires c = omega (arith, c.requires, length_in c.args.self.now.nodes.words.now c.args.self.now.nodes.count)

pub returns : goal.returns
returns c =
    let nodes = c.args.self.now.nodes.words.now in
    let n = c.args.self.now.nodes.count in
    c.is_cell.ensures ∙ sym (cell-is nodes n c.args.node (omega (arith, c.requires, length_in nodes n)))
