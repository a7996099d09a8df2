use Rattle.circuit.specs.declared.records.TheConstants.{CELL}
use Rattle.std.proofs.Common.{arith, ◌∙◌, sym}
use borrow.Author.Tests.{eq-eqb, ne_eqb}
use Rattle.circuit.specs.Records.{wires_of, is_cell_node}
use Rattle.circuit.proofs.Places.{few_places}
use Rattle.circuit.proofs.records.wire_count.Goals as goal

pub returns-then-n-eq-CELL : goal.returns-then-n-eq-CELL
unfolding wires_of is_cell_node
returns-then-n-eq-CELL c =
    (rw (eq-eqb c.args.n.kind CELL c.if-n-eq-CELL.true) (c.min.ensures ∙ sym (few_places c.args.n.wires c.args.n.count)), omega arith)

pub returns-else-n-eq-CELL : goal.returns-else-n-eq-CELL
unfolding wires_of is_cell_node
returns-else-n-eq-CELL c = (rw (ne_eqb c.args.n.kind CELL c.if-n-eq-CELL.false), omega arith)
