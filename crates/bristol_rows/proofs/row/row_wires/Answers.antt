use lib.ListN.{length}
use Rattle.std.proofs.lemmas.Result.{err_from_is_err_and}
use Rattle.bristol_rows.specs.Words.{words_left}
use Rattle.bristol_rows.proofs.Exits.{refusal_given}
use Rattle.bristol_rows.proofs.RowLaws.{wires_missing}
use Rattle.bristol_rows.proofs.row.row_wires.Goals as goal

pub returns-in_err-slots : goal.returns-in_err-slots
returns-in_err-slots c =
    let p = err_from_is_err_and c.from_residual.result c.from_residual.ensures.1 in
    rw (p.1, p.2, refusal_given _ _ _ c.in_err-slots.ensures.value)
    (wires_missing c.args.wires.now c.args.count (words_left c.args.words) (length c.args.wires.now) (rw c.in_err-slots.ensures.ok_part at c.read_inputs.ensures))
