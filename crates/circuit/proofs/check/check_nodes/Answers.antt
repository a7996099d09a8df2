use Rattle.std.proofs.Common.{Ok, ◌≡◌, ◌<◌, ◌≤◌, length, sym, ap, refl, arith, ◌∙◌}
use Prim.Native.Nat.{zero-le}
use Rattle.circuit.specs.declared.refusals.Refusal.TheVariants.{Broken}
use Rattle.circuit.specs.Records.{wires_of}
use Rattle.circuit.specs.Check.{not_below, wire_refusal, check_wires}
use Rattle.circuit.proofs.Checks.{record_fault, record_passed, wire_late, wire_passed, wires_passed, scan_start, scan_end, scan_fault, scan_passed}
use Rattle.circuit.proofs.check.check_nodes.Goals as goal

pub scan-init : goal.scan-init
scan-init c = (scan_start c.args.nodes.words.now c.args.nodes.count, zero-le, refl)

pub loop-k-preserved : goal.loop-k-preserved
loop-k-preserved c =
    let n = c.at-n.result in
    let h : c.loop-k.k < length (wires_of n) = omega arith in
    let inside : c.scan.i ≤ c.args.nodes.count = omega arith in (
      c.loop-k.invariant.0
          ∙ wire_passed c.args.nodes.count c.scan.i inside (wires_of n) c.loop-k.k h (ap (not_below c.scan.i) (sym c.wire_at-w.ensures) ∙ sym c.not_below.ensures ∙ c.if-not_below.false),
      omega arith,
      c.loop-k.invariant.2,
      c.loop-k.invariant.3,
    )

pub scan-preserved : goal.scan-preserved
scan-preserved c =
    let n = c.at-n.result in
    let wires : check_wires c.args.nodes.count c.scan.i (wires_of n) ≡ Ok tt = c.loop-k.invariant.0 ∙ wires_passed c.args.nodes.count c.scan.i (wires_of n) c.loop-k.k (omega arith) in (
      c.scan.invariant.0
          ∙ scan_passed c.args.nodes.words.now c.args.nodes.count c.scan.i c.scan-test.true n c.at-n.ensures
          (record_passed c.args.nodes.count c.scan.i n (sym c.record_broken.ensures ∙ c.if-record_broken.false) ∙ wires),
      omega arith,
      c.loop-k.invariant.3,
    )

pub returns-after-scan : goal.returns-after-scan
returns-after-scan c = c.scan.invariant.2 ∙ sym (c.scan.invariant.0 ∙ scan_end c.args.nodes.words.now c.args.nodes.count c.scan.i c.scan-test.false)

pub returns-then-record_broken : goal.returns-then-record_broken
returns-then-record_broken c =
    sym (c.scan.invariant.0
    ∙ scan_fault c.args.nodes.words.now c.args.nodes.count c.scan.i c.scan-test.true c.at-n.result c.at-n.ensures Broken
    (record_fault c.args.nodes.count c.scan.i c.at-n.result (sym c.record_broken.ensures ∙ c.if-record_broken.true)))

pub returns-then-not_below : goal.returns-then-not_below
returns-then-not_below c =
    let n = c.at-n.result in
    let m = c.args.nodes.count in
    let h : c.loop-k.k < length (wires_of n) = omega arith in
    let inside : c.scan.i ≤ m = omega arith in
    let w = sym c.wire_at-w.ensures in
    rw (c.wire_refusal.ensures ∙ ap (wire_refusal m) (sym w))
    (sym (c.scan.invariant.0
    ∙ scan_fault c.args.nodes.words.now m c.scan.i c.scan-test.true n c.at-n.ensures _
    (record_passed m c.scan.i n (sym c.record_broken.ensures ∙ c.if-record_broken.false)
    ∙ c.loop-k.invariant.0
    ∙ wire_late m c.scan.i inside (wires_of n) c.loop-k.k h (ap (not_below c.scan.i) w ∙ sym c.not_below.ensures ∙ c.if-not_below.true))))
