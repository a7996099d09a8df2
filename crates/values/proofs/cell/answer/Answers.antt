use Rattle.std.proofs.Common.{length, sym, ap, ◌∙◌, arith}
use Rattle.circuit.specs.declared.records.BoolNode.{BoolNode}
use Rattle.circuit.specs.Records.{node_at}
use Rattle.circuit.specs.Check.{not_below}
use Rattle.values.specs.Values.{signal_value}
use Rattle.values.proofs.SoundCells.{cell_wired, supplied, two_wires, small_table, answer_pair}
use Rattle.values.proofs.cell.answer.Goals as goal

pub wire-requires : goal.wire-requires
wire-requires c =
    let n = node_at c.args.nodes.words.now c.args.i in
    let two = two_wires (length c.args.values.now) n c.requires.sound (sym (ap (λ (x : BoolNode). x.count) c.at-n.ensures) ∙ c.if-n-ne2.false) in
    (c.requires.inside, omega (arith, two))

pub wire_value-first-requires : goal.wire_value-first-requires
wire_value-first-requires c =
    let m = length c.args.values.now in
    let n = node_at c.args.nodes.words.now c.args.i in
    let two = two_wires m n c.requires.sound (sym (ap (λ (x : BoolNode). x.count) c.at-n.ensures) ∙ c.if-n-ne2.false) in
    ap (not_below m) c.wire.ensures ∙ supplied m n (cell_wired m n c.requires.sound) 0 (omega (arith, two))

pub wire-requires-2 : goal.wire-requires-2
wire-requires-2 c =
    let n = node_at c.args.nodes.words.now c.args.i in
    let two = two_wires (length c.args.values.now) n c.requires.sound (sym (ap (λ (x : BoolNode). x.count) c.at-n.ensures) ∙ c.if-n-ne2.false) in
    (c.requires.inside, omega (arith, two))

pub wire_value-second-requires : goal.wire_value-second-requires
wire_value-second-requires c =
    let m = length c.args.values.now in
    let n = node_at c.args.nodes.words.now c.args.i in
    let two = two_wires m n c.requires.sound (sym (ap (λ (x : BoolNode). x.count) c.at-n.ensures) ∙ c.if-n-ne2.false) in
    ap (not_below m) c.wire-2.ensures ∙ supplied m n (cell_wired m n c.requires.sound) 1 (omega (arith, two))

pub pair_value-requires : goal.pair_value-requires
pair_value-requires c =
    let count = sym (ap (λ (x : BoolNode). x.count) c.at-n.ensures) ∙ c.if-n-ne2.false in
    let small = small_table (length c.args.values.now) (node_at c.args.nodes.words.now c.args.i) c.requires.sound count in
    omega (arith, small, ap (λ (x : BoolNode). x.table) c.at-n.ensures)

pub returns : goal.returns
returns c =
    let value = signal_value c.args.values.now in
    let n = node_at c.args.nodes.words.now c.args.i in
    let count = sym (ap (λ (x : BoolNode). x.count) c.at-n.ensures) ∙ c.if-n-ne2.false in
    answer_pair (length c.args.values.now) n c.requires.sound c.args.values.now count _ _ _ (c.wire_value-first.ensures ∙ ap value c.wire.ensures) (c.wire_value-second.ensures ∙ ap value c.wire-2.ensures)
    _ (ap (λ (x : BoolNode). x.table) c.at-n.ensures) c.pair_value.ensures
