use Rattle.std.proofs.Common.{◌<◌, length, sym, ap, ap₂, arith, ◌∙◌}
use Prim.Native.Nat.{zero-le}
use Rattle.circuit.specs.Records.{wires_of}
use Rattle.circuit.specs.Check.{not_below, wire_refusal}
use Rattle.circuit.proofs.Checks.{record_fault, record_passed, wire_refused, wire_taken, wires_passed}
use Rattle.circuit.proofs.check.check_node.Goals as goal

pub returns-then-record_broken : goal.returns-then-record_broken
returns-then-record_broken c = sym (record_fault c.args.m c.args.i c.args.n (sym c.record_broken.ensures ∙ c.if-record_broken.true))

pub loop-k-init : goal.loop-k-init
loop-k-init c = (record_passed c.args.m c.args.i c.args.n (sym c.record_broken.ensures ∙ c.if-record_broken.false), zero-le, c.wire_count-k-end.ensures.0)

pub returns-then-not_below : goal.returns-then-not_below
returns-then-not_below c =
    let ws = wires_of c.args.n in
    let h : c.loop-k.k < length ws = omega arith in
    let w = sym c.wire_at-w.ensures in
    rw (c.wire_refusal.ensures ∙ ap (wire_refusal c.args.m) (sym w))
    (sym (c.loop-k.invariant.0 ∙ wire_refused c.args.m c.args.i ws c.loop-k.k h (ap₂ not_below (sym c.min-before.ensures) w ∙ sym c.not_below.ensures ∙ c.if-not_below.true)))

pub loop-k-preserved : goal.loop-k-preserved
loop-k-preserved c =
    let ws = wires_of c.args.n in
    let h : c.loop-k.k < length ws = omega arith in (
      c.loop-k.invariant.0 ∙ wire_taken c.args.m c.args.i ws c.loop-k.k h (ap₂ not_below (sym c.min-before.ensures) (sym c.wire_at-w.ensures) ∙ sym c.not_below.ensures ∙ c.if-not_below.false),
      omega arith,
      c.loop-k.invariant.2,
    )

pub returns : goal.returns
returns c = sym (c.loop-k.invariant.0 ∙ wires_passed c.args.m c.args.i (wires_of c.args.n) c.loop-k.k (omega arith))
