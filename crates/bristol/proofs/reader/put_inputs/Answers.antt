use Rattle.std.proofs.Common.{◌≡◌, ◌+◌, ◌*◌, ◌≤◌, ◌++◌, ◌∷◌, [], ℕ, List, slice_set, length, sym, ap, ap₂, arith, subst}
use mathlib.Core.Path.{◌∙◌}
use Rattle.laws.proofs.Sums.{up_next, front_more}
use Rattle.circuit.specs.declared.records.TheConstants.{NODE_WORDS}
use Rattle.circuit.specs.declared.records.BoolNode.{BoolNode}
use Rattle.circuit.specs.Circuits.{Padded}
use Rattle.circuit.proofs.Codes.{input_padded}
use Rattle.reading.proofs.Storing.{more_nodes, more_hold}
use Rattle.bristol.specs.Bristol.{State, driven, wire_input, input_slot}
use Rattle.bristol.proofs.reader.put_inputs.Goals as goal

pub loop-wire-preserved : goal.loop-wire-preserved
loop-wire-preserved c =
    let l = c.loop-wire in
    let i = l.invariant in
    let next : ℕ = l.next.0 in
    let x : BoolNode = c.input.result in
    let fine : Padded x = subst Padded (sym c.input.ensures) (input_padded _) in
    let room : next * NODE_WORDS + NODE_WORDS ≤ length l.nodes = omega (arith, i.0, i.2, c.loop-wire-test.true, c.requires.rooms.0) in
    let is : x ≡ wire_input next = c.input.ensures ∙ ap wire_input (sym i.0) in
    let more = more_nodes l.nodes c.put_node.new.nodes next x fine c.put_node.ensures c.put_node.auto.nodes room i.3 in (
      omega (arith, i.0),
      omega (arith, c.loop-wire-test.true),
      c.put_node.auto.nodes ∙ i.2,
      more_hold l.nodes c.put_node.new.nodes next x fine c.put_node.ensures c.put_node.auto.nodes room i.3,
      ap₂ driven
          (more ∙ ap₂ (λ (ns : List BoolNode) (n : BoolNode). ns ++ (n ∷ [])) (ap (λ (s : State). s.nodes) i.4) is ∙ sym (up_next wire_input next))
          (ap₂ (λ (j v : ℕ). slice_set l.wires j v) (sym i.0) c.slot_of_node.ensures
          ∙ front_more input_slot l.wires c.args.wires.now 0 next (omega (arith, i.0, c.loop-wire-test.true, c.requires.rooms.1)) (ap (λ (s : State). s.wires) i.4)),
    )
