use Rattle.std.proofs.Common.{◌≤◌, length, sym, ap, arith, ◌∙◌}
use Rattle.std.proofs.lemmas.List.{get_or_default}
use Rattle.circuit.specs.declared.records.BoolNode.{BoolNode}
use Rattle.circuit.specs.declared.refusals.Refusal.TheVariants.{Broken}
use Rattle.circuit.specs.Records.{no_node}
use Rattle.circuit.specs.Check.{not_below, wire_refusal, check_node}
use Rattle.circuit.proofs.Checks.{record_fault, record_passed, wire_late, wire_passed, wires_passed}
use Rattle.node_slices.proofs.Slices.{left_faulty, left_clean, left_over}
use Rattle.node_slices.proofs.check_node_slice.Goals as goal

pub loop-k-preserved : goal.loop-k-preserved
loop-k-preserved c =
    let m = length c.args.nodes.now in
    let inside : c.scan.i ≤ m = omega arith in (
      c.loop-k.invariant.0 ∙ wire_passed m c.scan.i inside _ c.loop-k.k (omega arith) (ap (not_below c.scan.i) (sym c.wire_at-w.ensures) ∙ sym c.not_below.ensures ∙ c.if-not_below.false),
      omega arith,
      c.loop-k.invariant.2,
      c.loop-k.invariant.3,
    )

pub scan-preserved : goal.scan-preserved
scan-preserved c =
    let ns = c.args.nodes.now in let m = length ns in let i = c.scan.i in
    let e = ap (λ (n : BoolNode). check_node m i n) (get_or_default ns i _ no_node c.scan-test.true) in (
      c.scan.invariant.0
          ∙ left_clean ns m i c.scan-test.true
          (sym e ∙ record_passed m i _ (sym c.record_broken.ensures ∙ c.if-record_broken.false) ∙ c.loop-k.invariant.0 ∙ wires_passed m i _ c.loop-k.k (omega arith)),
      omega arith,
      c.loop-k.invariant.3,
    )

pub returns-after-scan : goal.returns-after-scan
returns-after-scan c = c.scan.invariant.2 ∙ sym (c.scan.invariant.0 ∙ left_over c.args.nodes.now (length c.args.nodes.now) c.scan.i c.scan-test.false)

pub returns-then-record_broken : goal.returns-then-record_broken
returns-then-record_broken c =
    let ns = c.args.nodes.now in let m = length ns in let i = c.scan.i in
    let e = ap (λ (n : BoolNode). check_node m i n) (get_or_default ns i _ no_node c.scan-test.true) in
    sym (c.scan.invariant.0 ∙ left_faulty ns m i c.scan-test.true Broken (sym e ∙ record_fault m i _ (sym c.record_broken.ensures ∙ c.if-record_broken.true)))

pub returns-then-not_below : goal.returns-then-not_below
returns-then-not_below c =
    let ns = c.args.nodes.now in let m = length ns in let i = c.scan.i in
    let inside : i ≤ m = omega arith in
    let e = ap (λ (n : BoolNode). check_node m i n) (get_or_default ns i _ no_node c.scan-test.true) in
    let w = sym c.wire_at-w.ensures in
    rw (c.wire_refusal.ensures ∙ ap (wire_refusal m) (sym w))
    (sym (c.scan.invariant.0
    ∙ left_faulty ns m i c.scan-test.true _
    (sym e ∙ record_passed m i _ (sym c.record_broken.ensures ∙ c.if-record_broken.false)
    ∙ c.loop-k.invariant.0
    ∙ wire_late m i inside _ c.loop-k.k (omega arith) (ap (not_below i) w ∙ sym c.not_below.ensures ∙ c.if-not_below.true))))
