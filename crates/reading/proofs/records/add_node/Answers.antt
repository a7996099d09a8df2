use Rattle.std.proofs.Common.{◌≡◌, refl, rules, length, arith}
use Rattle.circuit.specs.declared.records.TheConstants.{WIRES, NODE_WORDS}
use Rattle.circuit.proofs.Places.{placed}
use Rattle.circuit.specs.Circuits.{Padded}
use Rattle.reading.proofs.Steps.{node_added}
use Rattle.reading.proofs.Storing.{room_of, more_nodes, more_hold}
use Rattle.reading.proofs.records.add_node.Goals as goal

pub returns : goal.returns
returns c =
    let old = c.args.nodes.now in
    let all : length c.args.node.wires ≡ WIRES = search rules in
    let fine : Padded c.args.node = record { is = placed c.args.node.wires c.args.node.wires all (λ k _. refl) } in
    let room = room_of NODE_WORDS (length old) c.args.count (omega arith) (omega (arith, c.records_in.ensures, c.if-records_in-count.false)) in
    record {
      area = more_hold old c.put_node.new.nodes c.args.count c.args.node fine c.put_node.ensures c.put_node.auto.nodes room c.requires.area;
      step = rw (← c.records_in.ensures) (node_added old c.args.count _ c.args.node c.if-records_in-count.false _ (more_nodes old c.put_node.new.nodes c.args.count c.args.node fine c.put_node.ensures c.put_node.auto.nodes room c.requires.area));
    }
