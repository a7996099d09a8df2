use Rattle.circuit.specs.declared.records.TheConstants.{WIRES}
use Rattle.std.proofs.Common.{List, ◌≡◌, length, set, replicate, sym, ap₂, ◌∙◌, arith}
use Rattle.circuit.specs.declared.records.BoolWire.{BoolWire}
use Rattle.circuit.specs.Records.{cell_node, no_wire, places}
use Rattle.circuit.proofs.Places.{place-at, length-places}
use Rattle.laws.proofs.Filling.{fill_next, fill_all}
use Rattle.circuit.proofs.records.BoolNode.cell.Goals as goal

pub loop-k-preserved : goal.loop-k-preserved
loop-k-preserved c =
    let ws = c.args.wires.now in
    let none : List BoolWire = replicate WIRES no_wire in
    ap₂ (λ (x : List BoolWire) (y : BoolWire). set x c.loop-k.k y) c.loop-k.invariant
    (c.place_wire.ensures ∙ sym (place-at ws c.loop-k.k (omega arith)))
    ∙ fill_next no_wire (places ws) none c.loop-k.k (omega (arith, length-places ws)) (omega arith)

pub returns : goal.returns
unfolding cell_node
returns c =
    let ws = c.args.wires.now in
    let none : List BoolWire = replicate WIRES no_wire in
    let wired : c.loop-k.place-items ≡ places ws =
    c.loop-k.invariant ∙ fill_all (places ws) none c.loop-k.k (omega (arith, length-places ws)) (omega arith) in
    λ p. record { kind = 2; count = length ws; table = c.args.table; name = c.args.name; wires = wired p }
