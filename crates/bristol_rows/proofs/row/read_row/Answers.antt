use lib.ListN.{length}
use Rattle.std.proofs.lemmas.Result.{err_from_is_err_and}
use Rattle.bristol_rows.proofs.RowLaws.{arity_read, first_refused, second_refused, outputs_refused, wires_read}
use Rattle.bristol_rows.proofs.row.read_row.Goals as goal

pub returns-in_err-inputs : goal.returns-in_err-inputs
returns-in_err-inputs c =
    let p = err_from_is_err_and c.from_residual.result c.from_residual.ensures.1 in
    rw (p.1, p.2, ← c.split_whitespace-words.ensures) (first_refused c.args.wires.now (length c.args.wires.now) _ _ c.in_err-inputs.ensures.value)

pub returns-in_err-outputs : goal.returns-in_err-outputs
returns-in_err-outputs c =
    let p = err_from_is_err_and c.from_residual-in_err-outputs.result c.from_residual-in_err-outputs.ensures.1 in
    let i = arity_read 3 _ _ c.in_ok-inputs.inputs c.in_ok-inputs.ensures.value c.in_ok-inputs.ensures.rest in
    rw (p.1, p.2, ← c.split_whitespace-words.ensures) (second_refused c.args.wires.now (length c.args.wires.now) _ _ c.in_ok-inputs.inputs i _ c.in_err-outputs.ensures.value)

pub returns-then-outputs-ne1 : goal.returns-then-outputs-ne1
returns-then-outputs-ne1 c =
    let i = arity_read 3 _ _ c.in_ok-inputs.inputs c.in_ok-inputs.ensures.value c.in_ok-inputs.ensures.rest in
    let o = arity_read 2 _ _ c.in_ok-outputs.outputs c.in_ok-outputs.ensures.value c.in_ok-outputs.ensures.rest in
    rw (c.outputs_wrong.ensures, ← c.split_whitespace-words.ensures) (outputs_refused c.args.wires.now (length c.args.wires.now) _ _ c.in_ok-inputs.inputs i _ c.in_ok-outputs.outputs o c.if-outputs-ne1.true)

pub returns : goal.returns
returns c =
    let i = arity_read 3 _ _ c.in_ok-inputs.inputs c.in_ok-inputs.ensures.value c.in_ok-inputs.ensures.rest in
    let o = arity_read 2 _ _ c.in_ok-outputs.outputs c.in_ok-outputs.ensures.value c.in_ok-outputs.ensures.rest in
    rw (← c.split_whitespace-words.ensures) (wires_read c.args.wires.now (length c.args.wires.now) _ _ c.in_ok-inputs.inputs i _ c.in_ok-outputs.outputs o c.if-outputs-ne1.false c.row_wires.result c.row_wires.ensures)
