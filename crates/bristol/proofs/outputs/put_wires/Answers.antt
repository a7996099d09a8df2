use Rattle.std.proofs.Common.{◌+◌, ◌-◌, ◌≡◌, drop, length, sym, ap, arith}
use mathlib.Core.Path.{refl, ◌∙◌}
use lib.ListN.{length-drop}
use Rattle.laws.specs.Stretches.{stretch}
use Rattle.laws.proofs.Areas.{length_up}
use Rattle.laws.proofs.Stretches.{stretch_all}
use Rattle.circuit.specs.declared.records.WireNumber.{WireNumber}
use Rattle.circuit.specs.Records.{outputs_of, output_at}
use Rattle.bristol_rows.specs.Slots.{wire_number}
use Rattle.bristol.proofs.StoreLaws.{put_undriven, put_full, put_on, put_end}
use Rattle.bristol.proofs.outputs.put_wires.Goals as goal

pub returns-then-slot-eq-UNDRIVEN-clause-step : goal.returns-then-slot-eq-UNDRIVEN-clause-step
unfolding stretch
returns-then-slot-eq-UNDRIVEN-clause-step c =
    let whole = stretch_all c.args.wires.now c.args.first.0 (length c.args.wires.now) refl in
    let l = c.loop-count in
    rw (← c.records_in-room.ensures)
    (sym (put_undriven (drop c.args.first.0 c.args.wires.now) c.args.first.0 c.records_in-room.result l.count (outputs_of l.outputs l.count) (rw whole at c.loop-count-test.true) (rw whole at c.if-slot-eq-UNDRIVEN.true)) ∙ l.invariant.3)

pub returns-then-room-count-clause-step : goal.returns-then-room-count-clause-step
unfolding stretch
returns-then-room-count-clause-step c =
    let whole = stretch_all c.args.wires.now c.args.first.0 (length c.args.wires.now) refl in
    let l = c.loop-count in
    rw (← c.records_in-room.ensures)
    (sym (put_full (drop c.args.first.0 c.args.wires.now) c.args.first.0 c.records_in-room.result l.count (outputs_of l.outputs l.count) (rw whole at c.loop-count-test.true) (rw whole at c.if-slot-eq-UNDRIVEN.false)
    (length_up (output_at l.outputs) 0 l.count) c.if-room-count.true) ∙ l.invariant.3)

pub loop-count-preserved : goal.loop-count-preserved
unfolding stretch
loop-count-preserved c =
    let whole = stretch_all c.args.wires.now c.args.first.0 (length c.args.wires.now) refl in
    let l = c.loop-count in
    let more : l.wire.0 + 1 ≡ c.args.first.0 + (l.count + 1) = omega (arith, ap (λ (w : WireNumber). w.0) l.invariant.0) in (
      ap wire_number more,
      c.put_wire.auto.outputs ∙ l.invariant.1,
      c.put_wire.ensures.area,
      put_on (drop c.args.first.0 c.args.wires.now) c.args.first.0 c.records_in-room.result l.count (outputs_of l.outputs l.count) (rw whole at c.loop-count-test.true) (rw whole at c.if-slot-eq-UNDRIVEN.false)
          (length_up (output_at l.outputs) 0 l.count) c.if-room-count.false _ (rw (whole, l.invariant.0) at c.put_wire.ensures.step) ∙ l.invariant.3,
    )

pub returns-clause-step : goal.returns-clause-step
unfolding stretch
returns-clause-step c =
    let whole = stretch_all c.args.wires.now c.args.first.0 (length c.args.wires.now) refl in
    let l = c.loop-count in
    let over = rw whole at c.loop-count-test.false in
    let all : length c.args.wires.now - c.args.first.0 ≡ l.count = omega (arith, length-drop c.args.first.0 c.args.wires.now, over, rw whole at l.auto.count-end) in
    rw (← c.records_in-room.ensures, all)
    (sym (put_end (drop c.args.first.0 c.args.wires.now) c.args.first.0 c.records_in-room.result l.count (outputs_of l.outputs l.count) over) ∙ l.invariant.3)
