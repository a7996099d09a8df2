use mathlib.Core.Path.{◌≡◌, refl, sym, ap, ◌∙◌, subst}
use mathlib.Core.Bool.{Bool, true, false, ◌&&◌}
use mathlib.Core.List.{List}
use Prim.Native.Nat.{ℕ, ◌+◌, ◌*◌, ◌<◌, zero-le}
use native.Mathlib.Omega.{arith}
use lib.ListN.{length, get_or, take, drop}
use Rattle.laws.proofs.Filling.{take_next}
use Rattle.circuit.specs.Records.{nodes_of}
use Rattle.circuit.specs.Graph.{graph_of}
use Rattle.runs.specs.Fit.{within, ready_in, fit_in, Marks, block_size}
use Rattle.runs.proofs.Entries.{fit_turn, fit_end}
use Rattle.runs.proofs.fitness.take_entries.Goals as goal

pub loop-x-init : goal.loop-x-init
loop-x-init c = (c.requires, refl, refl, zero-le)

pub returns-in_err-take_entry : goal.returns-in_err-take_entry
returns-in_err-take_entry c =
    let h : c.loop-x.x-index < length c.args.order.now = omega arith in
    let f = c.in_err-take_entry.ensures (take c.loop-x.x-index c.args.order.now) c.loop-x.invariant.0 in
    let e : ready_in (within c.args.lo (block_size c.args.marks.now)) (graph_of (nodes_of c.args.circuit.nodes.words.now c.args.circuit.nodes.count)) (take c.loop-x.x-index c.args.order.now) (get_or c.args.order.now c.loop-x.x-index 0) ≡ false =
    ap (λ (size : ℕ). ready_in (within c.args.lo (size * 64)) (graph_of (nodes_of c.args.circuit.nodes.words.now c.args.circuit.nodes.count)) (take c.loop-x.x-index c.args.order.now) (get_or c.args.order.now c.loop-x.x-index 0)) (sym c.loop-x.invariant.2) ∙ sym f.0 in
    rw c.from_residual.ensures (sym (c.loop-x.invariant.1 ∙ fit_turn (within c.args.lo (block_size c.args.marks.now)) (graph_of (nodes_of c.args.circuit.nodes.words.now c.args.circuit.nodes.count)) c.args.order.now c.loop-x.x-index h
    ∙ ap (λ (b : Bool). b && fit_in (within c.args.lo (block_size c.args.marks.now)) (graph_of (nodes_of c.args.circuit.nodes.words.now c.args.circuit.nodes.count)) (take (c.loop-x.x-index + 1) c.args.order.now) (drop (c.loop-x.x-index + 1) c.args.order.now)) e))

pub loop-x-preserved : goal.loop-x-preserved
loop-x-preserved c =
    let h : c.loop-x.x-index < length c.args.order.now = omega arith in
    let f = c.in_ok-take_entry.ensures (take c.loop-x.x-index c.args.order.now) c.loop-x.invariant.0 in
    let e : ready_in (within c.args.lo (block_size c.args.marks.now)) (graph_of (nodes_of c.args.circuit.nodes.words.now c.args.circuit.nodes.count)) (take c.loop-x.x-index c.args.order.now) (get_or c.args.order.now c.loop-x.x-index 0) ≡ true =
    ap (λ (size : ℕ). ready_in (within c.args.lo (size * 64)) (graph_of (nodes_of c.args.circuit.nodes.words.now c.args.circuit.nodes.count)) (take c.loop-x.x-index c.args.order.now) (get_or c.args.order.now c.loop-x.x-index 0)) (sym c.loop-x.invariant.2) ∙ sym f.0 in (
      subst (λ (t : List ℕ). Marks c.args.lo c.take_entry.new.marks t) (take_next c.args.order.now c.loop-x.x-index h) (f.1 refl),
      c.loop-x.invariant.1 ∙ fit_turn (within c.args.lo (block_size c.args.marks.now)) (graph_of (nodes_of c.args.circuit.nodes.words.now c.args.circuit.nodes.count)) c.args.order.now c.loop-x.x-index h
          ∙ ap (λ (b : Bool). b && fit_in (within c.args.lo (block_size c.args.marks.now)) (graph_of (nodes_of c.args.circuit.nodes.words.now c.args.circuit.nodes.count)) (take (c.loop-x.x-index + 1) c.args.order.now) (drop (c.loop-x.x-index + 1) c.args.order.now)) e,
      c.take_entry.auto.marks ∙ c.loop-x.invariant.2,
      omega arith,
    )

pub returns : goal.returns
returns c =
    sym (c.loop-x.invariant.1 ∙ fit_end (within c.args.lo (block_size c.args.marks.now)) (graph_of (nodes_of c.args.circuit.nodes.words.now c.args.circuit.nodes.count)) c.args.order.now c.loop-x.x-index (omega arith))
