use Rattle.std.proofs.Common.{ℕ, List, ◌≡◌, ◌<◌, length, map, set, take, drop, replicate, ◌++◌, sym, ap, ap₂, ◌∙◌, arith}
use Rattle.std.proofs.lemmas.List.{length-map, length-take}
use Rattle.std.proofs.Math.ListN.{get_or-map}
use lib.Seq.{take_at}
use Rattle.laws.proofs.Filling.{fill_next, fill_all}
use Rattle.circuit.specs.declared.records.TheConstants.{WIRES}
use Rattle.circuit.specs.declared.records.BoolNode.{BoolNode}
use Rattle.circuit.specs.Records.{node_at, wires_of, no_wire}
use Rattle.circuit.specs.Check.{not_below}
use Rattle.values.specs.Values.{signal_value}
use Rattle.values.proofs.SoundCells.{cell_wired, supplied, answer_filled}
use Rattle.values.proofs.cell.filled.Goals as goal

pub wire_value-requires : goal.wire_value-requires
wire_value-requires c =
    let m = length c.args.values.now in
    let n = node_at c.args.nodes.words.now c.args.i in
    let count : c.wire_count-count.result ≡ length (wires_of n) = c.wire_count-count.ensures.0 ∙ ap (λ (x : BoolNode). length (wires_of x)) c.at-n.ensures in
    let inside : c.loop-k.k < length (wires_of n) = omega (arith, count, length-take {A = ℕ}) in
    ap (not_below m) c.wire.ensures ∙ supplied m n (cell_wired m n c.requires.sound) c.loop-k.k inside

pub loop-k-preserved : goal.loop-k-preserved
loop-k-preserved c =
    let value = signal_value c.args.values.now in
    let n = node_at c.args.nodes.words.now c.args.i in
    let full = map value (wires_of n) in
    let count : c.wire_count-count.result ≡ length (wires_of n) = c.wire_count-count.ensures.0 ∙ ap (λ (x : BoolNode). length (wires_of x)) c.at-n.ensures in
    let inside : c.loop-k.k < length (wires_of n) = omega (arith, count, length-take {A = ℕ}) in
    ap₂ (λ (x : List ℕ) (y : ℕ). set x c.loop-k.k y) c.loop-k.invariant
    (c.wire_value.ensures ∙ ap value c.wire.ensures ∙ sym (get_or-map value (wires_of n) c.loop-k.k no_wire))
    ∙ fill_next 0 full _ c.loop-k.k (omega (arith, length-map (wires_of n) value)) c.loop-k-test.true

pub returns : goal.returns
returns c =
    let m = length c.args.values.now in
    let n = node_at c.args.nodes.words.now c.args.i in
    let full = map (signal_value c.args.values.now) (wires_of n) in
    let part : List ℕ = take c.wire_count-count.result (replicate WIRES 0) in
    let count : c.wire_count-count.result ≡ length (wires_of n) = c.wire_count-count.ensures.0 ∙ ap (λ (x : BoolNode). length (wires_of x)) c.at-n.ensures in
    let size : length full ≡ c.wire_count-count.result = length-map (wires_of n) (signal_value c.args.values.now) ∙ sym count in
    let whole : c.loop-k.value-items ≡ full = c.loop-k.invariant ∙ fill_all full part c.loop-k.k (omega (arith, size, length-take {A = ℕ})) (omega (arith, length-take {A = ℕ})) in
    let read : take c.wire_count-count.result (c.loop-k.value-items ++ drop c.wire_count-count.result (replicate WIRES 0)) ≡ full =
    ap (λ (l : List ℕ). take c.wire_count-count.result (l ++ drop c.wire_count-count.result (replicate WIRES 0))) whole ∙ take_at full _ c.wire_count-count.result size in
    answer_filled m n c.requires.sound c.args.values.now _ _ read _ (ap (λ (x : BoolNode). x.table) c.at-n.ensures) c.cell_value.ensures
