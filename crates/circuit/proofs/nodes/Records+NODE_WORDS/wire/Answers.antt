use Rattle.std.proofs.Common.{ℕ, ◌≡◌, ◌+◌, ◌*◌, sym, ap, get_or, arith, ◌∙◌}
use Rattle.circuit.specs.declared.records.TheConstants.{WIRES_AT, NODE_WORDS}
use Rattle.circuit.specs.Records.{node_at, wire_of}
use Rattle.circuit.proofs.Places.{few_wires, wire_is, wire_from}
use Rattle.circuit.proofs.nodes.Records+NODE_WORDS.wire.Goals as goal

pub returns : goal.returns
returns c =
    let words = c.args.self.words.now in
    let n = node_at words c.args.i in
    let word = λ (j : ℕ). get_or words (c.args.i * NODE_WORDS + j) 0 in
    let here : c.args.i * NODE_WORDS + WIRES_AT + c.args.k ≡ c.args.i * NODE_WORDS + (WIRES_AT + c.args.k) = omega arith in
    c.from.ensures ∙ ap (λ (j : ℕ). wire_of (get_or words j 0)) here
    ∙ sym (wire_from word c.args.k (omega (arith, few_wires n, c.requires.1))) ∙ wire_is n c.args.k c.requires.1
