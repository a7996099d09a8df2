use Rattle.std.proofs.Common.{sym}
use mathlib.Core.Path.{◌∙◌}
use Rattle.circuit.proofs.Checks.{records_partial, records_whole}
use Rattle.circuit.proofs.check.check_records.Goals as goal
use Rattle.circuit.proofs.check.check_records.Goals.{then-not-are_whole-via-then-not-are_whole, then-not-are_whole-via-else-not-are_whole+then-some_broken, then-not-are_whole-via-else-not-are_whole+else-some_broken+then-output_outside}

pub returns-then-not-are_whole : goal.returns-then-not-are_whole
returns-then-not-are_whole c =
    let nodes = c.args.nodes.now in
    let outputs = c.args.outputs.now in
    let all = c.of-records.ensures in
    elim c.then-not-are_whole.branch [
      | then-not-are_whole-via-then-not-are_whole w ↦ records_partial nodes outputs (sym w.if-not-are_whole.ensures)
      | then-not-are_whole-via-else-not-are_whole+then-some_broken w ↦ sym (records_whole nodes outputs (sym w.if-not-are_whole.ensures) ∙ rw (sym (rw (all.0, all.1) at w.if-some_broken.ensures)))
      | then-not-are_whole-via-else-not-are_whole+else-some_broken+then-output_outside w ↦ sym (records_whole nodes outputs (sym w.if-not-are_whole.ensures) ∙ rw (sym (rw (all.0, all.1) at w.if-some_broken.ensures), sym (rw (w.of.ensures.0, w.of.ensures.1, all.1) at w.if-output_outside.ensures)))
    ]

pub returns : goal.returns
returns c =
    let all = c.of-records.ensures in
    sym (records_whole c.args.nodes.now c.args.outputs.now (sym c.if-not-are_whole.ensures) ∙ rw (sym (rw (all.0, all.1) at c.if-some_broken.ensures), sym (rw (c.of.ensures.0, c.of.ensures.1, all.1) at c.if-output_outside.ensures)))
