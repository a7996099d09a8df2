use Rattle.std.proofs.Common.{length, arith}
use Rattle.bristol.specs.Bristol.{bristol_circuit, bristol}
use Rattle.printing.proofs.Bounds.{inside}
use Rattle.printing.proofs.Printing.{bristol_printed}
use Rattle.printing.proofs.listed.BristolListed.list.Goals as goal

pub print_read-requires : goal.print_read-requires
unfolding bristol
print_read-requires g c =
    let l = c.parse_bristol-read.ensures in
    let k = c.parse_bristol-read.auto in
    record {
      text_size = omega arith;
      node_size = omega (arith, k.nodes, c.room-nodes.ensures);
      inside = inside (bristol_circuit c.args.text.now (length c.room-nodes.result) (length c.room-outputs.result) (length c.room-wires.result)) _ _ _ _ _ l.answer_is l.nodes_are k.nodes l.outputs_are k.outputs;
    }

pub returns : goal.returns
returns g c = rw (← bristol_printed c.args.text.now _ _ _ c.parse_bristol-read.result _ _ _ c.room-nodes.ensures c.room-outputs.ensures c.room-wires.ensures c.parse_bristol-read.ensures) c.print_read.ensures
