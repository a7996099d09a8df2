use Rattle.std.proofs.Common.{Err, ap}
use mathlib.Core.Path.{◌∙◌}
use Rattle.std.proofs.lemmas.Result.{err_from_is_err_and}
use Rattle.bristol_rows.proofs.HeaderLineLaws.{widths_invalid}
use Rattle.bristol_rows.proofs.NumberLaws.{each_bad}
use Rattle.bristol_rows.proofs.header.read_widths.Goals as goal

pub returns-in_err-read_number : goal.returns-in_err-read_number
returns-in_err-read_number c =
    let p = err_from_is_err_and c.from_residual.result c.from_residual.ensures.1 in
    let bad = each_bad _ _ _ c.in-Some.ensures.steps _ c.in_err-read_number.ensures in
    rw (p.1, p.2) (ap Err bad.1 ∙ widths_invalid c.args.limit c.loop-word.count c.loop-word.sum _ bad.0 ∙ c.loop-word.invariant.3)
