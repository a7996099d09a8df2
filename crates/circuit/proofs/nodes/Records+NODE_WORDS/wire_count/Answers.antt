use Rattle.std.proofs.Common.{sym, ◌∙◌}
use Rattle.circuit.specs.Records.{wires_of, node_at, node_from}
use Rattle.circuit.proofs.Places.{few_places}
use Rattle.circuit.proofs.nodes.Records+NODE_WORDS.wire_count.Goals as goal

pub returns-then-is_cell : goal.returns-then-is_cell
unfolding wires_of node_from
returns-then-is_cell c =
    let n = node_at c.args.self.words.now c.args.i in
    rw (sym c.is_cell.ensures ∙ c.if-is_cell.true) (c.min.ensures ∙ sym (few_places n.wires n.count))

pub returns-else-is_cell : goal.returns-else-is_cell
unfolding wires_of node_from
returns-else-is_cell c = rw (sym c.is_cell.ensures ∙ c.if-is_cell.false)
