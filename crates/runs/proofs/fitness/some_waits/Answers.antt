use mathlib.Core.Path.{refl, sym, ap, ◌∙◌}
use Prim.Native.Nat.{zero-le}
use native.Mathlib.Omega.{arith}
use lib.ListN.{length}
use Rattle.laws.proofs.Lists.{some_here, some-later, some_past, none_at}
use Rattle.circuit.specs.declared.records.BoolNode.{BoolNode}
use Rattle.circuit.specs.Records.{node_at, wires_of, no_wire}
use Rattle.circuit.specs.Check.{not_below}
use Rattle.runs.specs.Fit.{wire_waits}
use Rattle.runs.proofs.fitness.some_waits.Goals as goal

pub loop-k-init : goal.loop-k-init
loop-k-init c = (refl, zero-le, c.wire_count-k-end.ensures.0 ∙ ap (λ (n : BoolNode). length (wires_of n)) c.at.ensures)

pub wire-requires : goal.wire-requires
wire-requires c = (c.requires.inside, omega (arith, c.loop-k.invariant.2))

pub wire_waits-requires : goal.wire_waits-requires
wire_waits-requires c =
    ap (not_below c.args.nodes.count) c.wire.ensures
    ∙ none_at (not_below c.args.nodes.count) (wires_of (node_at c.args.nodes.words.now c.args.x)) no_wire c.loop-k.k (omega (arith, c.loop-k.invariant.2)) c.requires.wired

pub returns-then-wire_waits : goal.returns-then-wire_waits
returns-then-wire_waits c =
    let waits = wire_waits c.args.nodes.words.now c.args.lo c.args.marks.now in
    sym (c.loop-k.invariant.0 ∙ some_here waits (wires_of (node_at c.args.nodes.words.now c.args.x)) no_wire c.loop-k.k (omega (arith, c.loop-k.invariant.2))
    (ap waits (sym c.wire.ensures) ∙ sym c.wire_waits.ensures ∙ c.if-wire_waits.true))

pub loop-k-preserved : goal.loop-k-preserved
loop-k-preserved c =
    let waits = wire_waits c.args.nodes.words.now c.args.lo c.args.marks.now in
    let here = ap waits (sym c.wire.ensures) ∙ sym c.wire_waits.ensures ∙ c.if-wire_waits.false in
    (c.loop-k.invariant.0 ∙ some-later waits (wires_of (node_at c.args.nodes.words.now c.args.x)) no_wire c.loop-k.k (omega (arith, c.loop-k.invariant.2)) here, omega arith, c.loop-k.invariant.2)

pub returns : goal.returns
returns c =
    sym (c.loop-k.invariant.0 ∙ some_past (wire_waits c.args.nodes.words.now c.args.lo c.args.marks.now) (wires_of (node_at c.args.nodes.words.now c.args.x)) c.loop-k.k (omega (arith, c.loop-k.invariant.2)))
