use Rattle.std.proofs.Common.{ℕ, List, ◌++◌, ◌/◌, ◌≤◌, length, drop, refl, sym, ap, ap₂, ◌∙◌, arith}
use Rattle.std.proofs.lemmas.Result.{err_from_is_err_and}
use Rattle.circuit.specs.declared.records.TheConstants.{NODE_WORDS}
use Rattle.circuit.specs.Records.{output_wires}
use Rattle.circuit.specs.Check.{some_not_below, nodes_in, wires_in}
use Rattle.circuit.proofs.Checks.{all_below_more}
use Rattle.circuit.proofs.Codes.{length_nodes}
use Rattle.values.specs.Values.{outputs_from}
use Rattle.values.proofs.Inputs.{two_valued}
use Rattle.values.proofs.Evaluating.{faulty_node, faulty_output, faulty_length, faulty_room, faultless, outputs_kept, evaluated_count}
use Rattle.values.proofs.evaluate.work_out.Goals as goal

pub put_values-requires-clause-known : goal.put_values-requires-clause-known
put_values-requires-clause-known c = two_valued c.args.assignment.now (c.in_ok-begin.ensures.workable refl).known

pub returns-in_err-inputs-clause-checked : goal.returns-in_err-inputs-clause-checked
returns-in_err-inputs-clause-checked c =
    let w = c.in_ok-begin.ensures.workable refl in
    let e = rw (c.of-nodes.ensures.0, c.of-nodes.ensures.1) at c.in_err-inputs.ensures.checked in
    let p = err_from_is_err_and c.from_residual-in_err-inputs.result c.from_residual-in_err-inputs.ensures.1 in
    rw (p.1, p.2) (faulty_node c.args.nodes.now c.args.outputs.now c.args.assignment.now _ _ w _ e)

pub returns-then-output_outside-clause-checked : goal.returns-then-output_outside-clause-checked
returns-then-output_outside-clause-checked c =
    let w = c.in_ok-begin.ensures.workable refl in
    let e = rw (c.of-nodes.ensures.0, c.of-nodes.ensures.1) at c.in_ok-inputs.ensures.checked in
    let o = rw (c.of-nodes.ensures.1, c.of-outputs.ensures.0, c.of-outputs.ensures.1) at c.if-output_outside.ensures in
    faulty_output c.args.nodes.now c.args.outputs.now c.args.assignment.now _ _ w _ e (sym o)

pub returns-then-assignment-inputs-clause-checked : goal.returns-then-assignment-inputs-clause-checked
returns-then-assignment-inputs-clause-checked c =
    let w = c.in_ok-begin.ensures.workable refl in
    let e = rw (c.of-nodes.ensures.0, c.of-nodes.ensures.1) at c.in_ok-inputs.ensures.checked in
    let o = rw (c.of-nodes.ensures.1, c.of-outputs.ensures.0, c.of-outputs.ensures.1) at c.if-output_outside.ensures in
    faulty_length c.args.nodes.now c.args.outputs.now c.args.assignment.now _ _ w _ e (sym o) c.if-assignment-inputs.true

pub returns-then-answers-outputs-clause-checked : goal.returns-then-answers-outputs-clause-checked
returns-then-answers-outputs-clause-checked c =
    let w = c.in_ok-begin.ensures.workable refl in
    let e = rw (c.of-nodes.ensures.0, c.of-nodes.ensures.1) at c.in_ok-inputs.ensures.checked in
    let o = rw (c.of-nodes.ensures.1, c.of-outputs.ensures.0, c.of-outputs.ensures.1) at c.if-output_outside.ensures in
    faulty_room c.args.nodes.now c.args.outputs.now c.args.assignment.now _ _ w _ e (sym o) c.if-assignment-inputs.false (omega arith)

pub put_outputs-requires-clause-wired : goal.put_outputs-requires-clause-wired
put_outputs-requires-clause-wired c =
    let stored : c.of-nodes.result.count ≤ length c.put_values.new.values = rw (c.of-nodes.ensures.1, c.put_values.auto.values) (c.in_ok-begin.ensures.workable refl).stored in
    all_below_more c.of-nodes.result.count (length c.put_values.new.values) stored (output_wires c.of-outputs.result.words.now c.of-outputs.result.count) (sym c.if-output_outside.ensures)

pub returns-clause-checked : goal.returns-clause-checked
returns-clause-checked c =
    let w = c.in_ok-begin.ensures.workable refl in
    let e = rw (c.of-nodes.ensures.0, c.of-nodes.ensures.1) at c.in_ok-inputs.ensures.checked in
    let o = rw (c.of-nodes.ensures.1, c.of-outputs.ensures.0, c.of-outputs.ensures.1) at c.if-output_outside.ensures in
    rw c.of-outputs.ensures.1 (faultless c.args.nodes.now c.args.outputs.now c.args.assignment.now _ _ w _ e (sym o) c.if-assignment-inputs.false (omega arith))

pub returns-clause-given : goal.returns-clause-given
returns-clause-given c =
    let m = length c.args.nodes.now / NODE_WORDS in
    let o = rw (c.of-nodes.ensures.1, c.of-outputs.ensures.0, c.of-outputs.ensures.1) at c.if-output_outside.ensures in
    let v = rw (c.of-nodes.ensures.0, c.of-nodes.ensures.1) at (c.in_ok-inputs.ensures.worked_out refl) in
    let p = rw (c.of-outputs.ensures.0, c.of-outputs.ensures.1) at c.put_outputs.ensures in
    let below = ap (λ (k : ℕ). some_not_below k (wires_in c.args.outputs.now)) (length_nodes c.args.nodes.now m) ∙ sym o in
    let given = ap (λ (l : List ℕ). outputs_from l (wires_in c.args.outputs.now)) v ∙ outputs_kept (nodes_in c.args.nodes.now) (wires_in c.args.outputs.now) c.args.assignment.now (drop m c.args.values.now) below in
    p ∙ ap₂ (λ (l : List ℕ) (k : ℕ). l ++ drop k c.args.answers.now) given (sym (evaluated_count (nodes_in c.args.nodes.now) c.args.outputs.now c.args.assignment.now))
