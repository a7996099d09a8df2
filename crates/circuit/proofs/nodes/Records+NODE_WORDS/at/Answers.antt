use Rattle.circuit.specs.declared.records.TheConstants.{WIRES, WIRES_AT, NODE_WORDS}
use Rattle.std.proofs.Common.{ℕ, List, ◌≡◌, ◌+◌, ◌*◌, get_or, set, replicate, sym, ap, ap₂, ◌∙◌, arith, add-zero}
use Rattle.circuit.specs.declared.records.BoolWire.{BoolWire}
use Rattle.circuit.specs.Records.{no_wire, node_at, node_from, wire_of}
use Rattle.circuit.proofs.Places.{wire_from, length_wires}
use Rattle.laws.proofs.Filling.{fill_next, fill_all}
use Rattle.circuit.proofs.nodes.Records+NODE_WORDS.at.Goals as goal

pub loop-k-preserved : goal.loop-k-preserved
loop-k-preserved c =
    let words = c.args.self.words.now in
    let full = (node_at words c.args.i).wires in
    let none : List BoolWire = replicate WIRES no_wire in
    let word = λ (j : ℕ). get_or words (c.args.i * NODE_WORDS + j) 0 in
    let here : c.args.i * NODE_WORDS + WIRES_AT + c.loop-k.k ≡ c.args.i * NODE_WORDS + (WIRES_AT + c.loop-k.k) = omega arith in
    ap₂ (λ (x : List BoolWire) (y : BoolWire). set x c.loop-k.k y) c.loop-k.invariant
    (c.from.ensures ∙ ap (λ (j : ℕ). wire_of (get_or words j 0)) here ∙ sym (wire_from word c.loop-k.k c.loop-k-test.true))
    ∙ fill_next no_wire full none c.loop-k.k (omega (arith, length_wires word)) (omega arith)

pub returns : goal.returns
unfolding node_from
returns c =
    let words = c.args.self.words.now in
    let word = λ (j : ℕ). get_or words (c.args.i * NODE_WORDS + j) 0 in
    let first : get_or words (c.args.i * NODE_WORDS) 0 ≡ get_or words (c.args.i * NODE_WORDS + 0) 0 = ap (λ (j : ℕ). get_or words j 0) (sym (add-zero (c.args.i * NODE_WORDS))) in
    let none : List BoolWire = replicate WIRES no_wire in
    let wired : c.loop-k.wire-items ≡ (node_at words c.args.i).wires =
    c.loop-k.invariant ∙ fill_all (node_at words c.args.i).wires none c.loop-k.k (omega (arith, length_wires word)) (omega arith) in
    let at = c.args.i * NODE_WORDS in
    let second : at + 3 + 1 ≡ at + 4 = omega arith in
    let third : at + 3 + 2 ≡ at + 5 = omega arith in
    let fourth : at + 3 + 3 ≡ at + 6 = omega arith in
    let named : c.from-2.result ≡ (node_at words c.args.i).name = rw (second, third, fourth) at c.from-2.ensures in
    λ p. record {
      kind = first p;
      count = word 1;
      table = word 2;
      name = named p;
      wires = wired p;
    }
