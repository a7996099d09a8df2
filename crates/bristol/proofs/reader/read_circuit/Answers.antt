use Rattle.std.proofs.Common.{◌≡◌, ℕ, ◌-◌, ◌≤◌, List, ◌++◌, length, take, drop, ap, arith}
use mathlib.Core.Path.{◌∙◌}
use lib.ListN.{replicate}
use lib.Seq.{length-take-le}
use Rattle.std.proofs.lemmas.List.{drop-replicate, take-replicate}
use Rattle.laws.specs.Areas.{capacity}
use Rattle.circuit.specs.declared.records.TheConstants.{NODE_WORDS, OUTPUT_WORDS}
use Rattle.text.specs.Iterators.{kept_left}
use Rattle.bristol.specs.Bristol.{circuit}
use Rattle.bristol.proofs.ReadLaws.{no_nodes, no_outputs, leaves_more, circuit-body}
use Rattle.bristol.proofs.reader.read_circuit.Goals as goal

pub read_clean-requires : goal.read_clean-requires
unfolding capacity
read_clean-requires c =
    let n : ℕ = c.in_ok-head.head.wires in
    let g = c.in_ok-head.ensures in
    let l : n ≤ length c.args.wires.now = omega (arith, c.records_in.ensures, c.if-records_in-head.false) in
    record {
      fits = g.fits;
      room = omega (arith, c.records_in-else-records_in-head.ensures, c.if-records_in-head-2.false);
      nodes_hold = no_nodes c.args.nodes.now c.requires.0;
      outputs_hold = no_outputs c.args.outputs.now c.requires.1;
      wires_zero = ap (take n) c.requires.2 ∙ take-replicate {X = ℕ} n (length c.args.wires.now) 0 l;
    }

pub returns : goal.returns
unfolding capacity
returns c =
    let n : ℕ = c.in_ok-head.head.wires in
    let l : n ≤ length c.args.wires.now = omega (arith, c.records_in.ensures, c.if-records_in-head.false) in
    let k : length (take n c.args.wires.now) ≡ n = length-take-le n c.args.wires.now l in
    let z : length c.args.wires.now - n ≡ length c.args.wires.now - length (take n c.args.wires.now) = omega (arith, k) in
    leaves_more (length c.args.nodes.now) (length c.args.outputs.now) (length (take n c.args.wires.now)) (length c.args.wires.now) _ _
    (circuit-body (kept_left c.kept_lines-lines.result) (kept_left c.read_header.new.lines) (capacity NODE_WORDS (length c.args.nodes.now)) (capacity OUTPUT_WORDS (length c.args.outputs.now)) (capacity 1 (length c.args.wires.now)) c.in_ok-head.head c.in_ok-head.ensures
    (omega (arith, c.records_in.ensures, c.if-records_in-head.false)) (omega (arith, c.records_in-else-records_in-head.ensures, c.if-records_in-head-2.false))
    ∙ ap (circuit (capacity NODE_WORDS (length c.args.nodes.now)) (capacity OUTPUT_WORDS (length c.args.outputs.now)) (capacity 1 (length c.args.wires.now))) c.kept_lines-lines.ensures)
    c.read_clean.result c.read_clean.new.nodes c.read_clean.new.outputs c.read_clean.new.wires _ (omega (arith, k))
    (ap (λ (x : List ℕ). c.read_clean.new.wires ++ x) (ap (drop n) c.requires.2 ∙ drop-replicate {X = ℕ} n (length c.args.wires.now) 0 ∙ ap (λ (m : ℕ). replicate m 0) z)) c.read_clean.ensures
