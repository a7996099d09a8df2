use mathlib.Core.Path.{◌≡◌, sym, ap, ap₂, ◌∙◌}
use mathlib.Core.List.{List, ◌++◌, append-nil}
use Prim.Native.Nat.{ℕ, ◌<◌, ◌≤◌}
use native.Mathlib.Omega.{arith}
use lib.ListN.{length, get_or, set, take, drop, drop_of_length-le}
use lib.Seq.{take_all, length-take-le}
use Rattle.laws.proofs.Lists.{none_at}
use Rattle.laws.proofs.Filling.{fill_next}
use Rattle.circuit.specs.Records.{output_wires, no_wire}
use Rattle.circuit.specs.Check.{not_below}
use Rattle.circuit.proofs.Codes.{length_output_wires}
use Rattle.values.specs.Values.{signal_value, outputs_from}
use Rattle.values.proofs.OutputValues.{length-outputs, out_at, output-at}
use Rattle.values.proofs.outputs.put_outputs.Goals as goal

pub wire-requires : goal.wire-requires
wire-requires c = omega (arith, c.loop-j-test.true, length-take-le c.args.outputs.count c.args.answers.now c.requires.room)

pub wire_value-requires : goal.wire_value-requires
wire_value-requires c =
    let m = length c.args.values.now in
    let below : c.loop-j.j < c.args.outputs.count = omega (arith, c.loop-j-test.true, length-take-le c.args.outputs.count c.args.answers.now c.requires.room) in
    let l : c.loop-j.j < length (output_wires c.args.outputs.words.now c.args.outputs.count) = omega (arith, below, length_output_wires c.args.outputs.words.now c.args.outputs.count) in
    ap (not_below m) (c.wire.ensures ∙ sym (out_at c.args.values.now c.args.outputs.words.now c.args.outputs.count c.loop-j.j below)) ∙ none_at (not_below m) (output_wires c.args.outputs.words.now c.args.outputs.count) no_wire c.loop-j.j l c.requires.wired

pub loop-j-preserved : goal.loop-j-preserved
loop-j-preserved c =
    let s = c.args.values.now in
    let words = c.args.outputs.words.now in
    let n = c.args.outputs.count in
    let full = outputs_from s (output_wires words n) in
    let part : List ℕ = take n c.args.answers.now in
    let size : length part ≡ n = length-take-le n c.args.answers.now c.requires.room in
    let below : c.loop-j.j < n = omega (arith, c.loop-j-test.true, size) in
    let v : c.wire_value.result ≡ get_or full c.loop-j.j 0 = c.wire_value.ensures ∙ ap (signal_value s) c.wire.ensures ∙ sym (output-at s words n c.loop-j.j below) in
    ap₂ (λ (x : List ℕ) (y : ℕ). set x c.loop-j.j y) c.loop-j.invariant v ∙ fill_next 0 full part c.loop-j.j (omega (arith, below, length-outputs s words n)) (omega (arith, below, size))

pub returns : goal.returns
returns c =
    let n = c.args.outputs.count in
    let full = outputs_from c.args.values.now (output_wires c.args.outputs.words.now n) in
    let part : List ℕ = take n c.args.answers.now in
    let all : n ≤ c.loop-j.j = omega (arith, c.loop-j-test.false, length-take-le n c.args.answers.now c.requires.room) in
    ap (λ (l : List ℕ). l ++ drop n c.args.answers.now)
    (c.loop-j.invariant ∙ ap₂ ◌++◌ (take_all c.loop-j.j full (omega (arith, all, length-outputs c.args.values.now c.args.outputs.words.now n))) (drop_of_length-le part c.loop-j-test.false) ∙ append-nil full)
