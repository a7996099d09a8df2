use Rattle.std.proofs.Common.{◌≡◌, ◌++◌, ℕ, List, map, take, drop, length, set, replicate, sym, ap, ap₂, ◌∙◌, rules, arith}
use Rattle.std.proofs.lemmas.List.{length-map, length-take}
use lib.ListN.{get_or-map}
use lib.Seq.{take_at}
use Rattle.laws.proofs.Filling.{fill_next, fill_all}
use Rattle.circuit.specs.declared.records.BoolWire.{BoolWire}
use Rattle.circuit.specs.declared.records.TheConstants.{WIRES}
use Rattle.circuit.specs.Records.{no_wire, wire_of, cell_node}
use Rattle.circuit.proofs.Words.{words_fit, cell_fits}
use Rattle.reading.proofs.records.word_cell.Goals as goal

pub loop-k-preserved : goal.loop-k-preserved
loop-k-preserved c =
    let words : List ℕ = c.args.words.now in
    let none : List BoolWire = take (length words) (replicate WIRES no_wire) in
    let all = length-map words wire_of in
    let room = length-take {A = BoolWire} (length words) (replicate WIRES no_wire) in
    ap₂ (λ (x : List BoolWire) (y : BoolWire). set x c.loop-k.k y) c.loop-k.invariant (c.from.ensures ∙ sym (get_or-map wire_of words c.loop-k.k 0))
    ∙ fill_next no_wire (map wire_of words) none c.loop-k.k (omega (arith, all, room, c.loop-k-test.true)) c.loop-k-test.true

pub returns : goal.returns
returns c =
    let words : List ℕ = c.args.words.now in
    let none : List BoolWire = take (length words) (replicate WIRES no_wire) in
    let room = length-take {A = BoolWire} (length words) (replicate WIRES no_wire) in
    let all = length-map words wire_of in
    let filled : c.loop-k.wire-items ≡ map wire_of words =
    c.loop-k.invariant ∙ fill_all (map wire_of words) none c.loop-k.k (omega (arith, all, room, c.loop-k-test.false)) c.loop-k-test.false in
    let front : take (length words) (c.loop-k.wire-items ++ drop (length words) (replicate WIRES no_wire)) ≡ map wire_of words =
    take_at c.loop-k.wire-items (drop (length words) (replicate WIRES no_wire)) (length words) (omega (arith, all, ap length filled)) ∙ filled in
    let made : c.cell.result ≡ cell_node c.args.name c.args.table (map wire_of words) = c.cell.ensures ∙ ap (cell_node c.args.name c.args.table) front in
    record { cell = made; wires_fit = cell_fits c.cell.result _ _ _ made (words_fit words (λ i. search rules)) }
