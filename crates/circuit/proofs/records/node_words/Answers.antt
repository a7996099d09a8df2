use Rattle.std.proofs.Common.{ℕ, List, set, sym, ap₂, ◌∙◌, arith, map}
use Rattle.circuit.specs.Records.{wire_word, places}
use Rattle.circuit.proofs.Places.{length_place_words, word-at}
use Rattle.laws.proofs.Filling.{fill_next, fill_all}
use Rattle.circuit.proofs.Codes.{node_list}
use Rattle.circuit.proofs.records.node_words.Goals as goal

pub loop-k-preserved : goal.loop-k-preserved
loop-k-preserved c =
    let full = map wire_word (places c.args.n.wires) in
    ap₂ (λ (x : List ℕ) (y : ℕ). set x c.loop-k.k y) c.loop-k.invariant (c.wire_word.ensures ∙ sym (word-at c.args.n.wires c.loop-k.k (omega arith)))
    ∙ fill_next 0 full _ c.loop-k.k (omega (arith, length_place_words c.args.n.wires)) (omega arith)

pub returns : goal.returns
returns c =
    let full = map wire_word (places c.args.n.wires) in
    let all = c.loop-k.invariant ∙ fill_all full _ c.loop-k.k (omega (arith, length_place_words c.args.n.wires)) (omega arith) in
    rw (c.copy_from_slice.ensures.after) (node_list c.args.n _ _ c.from.ensures all)
