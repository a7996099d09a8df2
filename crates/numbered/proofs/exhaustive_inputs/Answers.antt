use Rattle.std.proofs.Common.{length, sym, rules}
use Rattle.std.proofs.lemmas.Result.{err_from_is_err_and}
use Rattle.laws.proofs.Filling.{filled_zeros}
use Rattle.numbered.specs.Numbered.{numbered}
use Rattle.numbered.proofs.Numbering.{exhaustive_broken, exhaustive_counted, number_fits, assigned_call, unassigned_call}
use Rattle.numbered.proofs.exhaustive_inputs.Goals as goal

pub returns-in_err-check_records : goal.returns-in_err-check_records
returns-in_err-check_records c =
    let p = err_from_is_err_and c.from_residual.result c.from_residual.ensures.1 in
    let f = exhaustive_broken c.args.nodes.now c.args.outputs.now c.args.number (length c.args.assignment.now) _ (sym c.in_err-check_records.ensures) in
    rw (p.1, p.2) (unassigned_call c.args.nodes.now c.args.outputs.now c.args.number c.args.assignment.now _ f _ (c.fill.ensures.after (search rules)))

pub returns-in_err-number_fault : goal.returns-in_err-number_fault
returns-in_err-number_fault c =
    let p = err_from_is_err_and c.from_residual-in_err-number_fault.result c.from_residual-in_err-number_fault.ensures.1 in
    let n = rw (c.of.ensures.0, c.of.ensures.1) at c.count_inputs-n.ensures in
    let f = exhaustive_counted c.args.nodes.now c.args.outputs.now c.args.number (length c.args.assignment.now) (sym c.in_ok-check_records.ensures) _ n _ c.fill.auto.self _ (sym c.in_err-number_fault.ensures) in
    rw (p.1, p.2) (unassigned_call c.args.nodes.now c.args.outputs.now c.args.number c.args.assignment.now _ f _ (c.fill.ensures.after (search rules)))

pub put_number-requires : goal.put_number-requires
put_number-requires c = number_fits _ _ _ (sym c.in_ok-number_fault.ensures)

pub returns : goal.returns
returns c =
    let n = rw (c.of.ensures.0, c.of.ensures.1) at c.count_inputs-n.ensures in
    let f = exhaustive_counted c.args.nodes.now c.args.outputs.now c.args.number (length c.args.assignment.now) (sym c.in_ok-check_records.ensures) _ n _ c.fill.auto.self _ (sym c.in_ok-number_fault.ensures) in
    assigned_call c.args.nodes.now c.args.outputs.now c.args.number c.args.assignment.now f _ _ n
    (filled_zeros _ _ (length c.args.assignment.now) _ (numbered _ c.args.number) c.put_number.ensures (c.fill.ensures.after (search rules)))
