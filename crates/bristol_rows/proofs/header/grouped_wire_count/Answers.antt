use Rattle.std.proofs.Common.{Err, ap, sym}
use mathlib.Core.Path.{◌∙◌}
use Rattle.std.proofs.lemmas.Result.{err_from_is_err_and}
use Rattle.bristol_rows.proofs.HeaderLineLaws.{group_first, group_invalid, group_other, group_sum}
use Rattle.bristol_rows.proofs.NumberLaws.{each_bad, each_value}
use Rattle.bristol_rows.proofs.header.grouped_wire_count.Goals as goal

pub returns-in_err-groups : goal.returns-in_err-groups
returns-in_err-groups c =
    let p = err_from_is_err_and c.from_residual.result c.from_residual.ensures.1 in
    let bad = each_bad _ _ _ (sym c.split_whitespace-words.ensures ∙ c.in-Some.ensures.steps) _ c.in_err-groups.ensures in
    rw (p.1, p.2) (ap Err bad.1 ∙ group_first c.args.limit _ bad.0)

pub returns-in_err-widths : goal.returns-in_err-widths
returns-in_err-widths c =
    let p = err_from_is_err_and c.from_residual-in_err-widths.result c.from_residual-in_err-widths.ensures.1 in
    let v = each_value _ _ _ (sym c.split_whitespace-words.ensures ∙ c.in-Some.ensures.steps) c.in_ok-groups.groups c.in_ok-groups.ensures in
    rw (p.1, p.2) (group_invalid c.args.limit c.in_ok-groups.groups _ _ v _ c.in_err-widths.ensures)

pub returns-then-groups-widths : goal.returns-then-groups-widths
returns-then-groups-widths c =
    let v = each_value _ _ _ (sym c.split_whitespace-words.ensures ∙ c.in-Some.ensures.steps) c.in_ok-groups.groups c.in_ok-groups.ensures in
    group_sum c.args.limit c.in_ok-groups.groups _ _ v c.in_ok-widths.widths c.in_ok-widths.ensures c.if-groups-widths.true

pub returns-else-groups-widths : goal.returns-else-groups-widths
returns-else-groups-widths c =
    let v = each_value _ _ _ (sym c.split_whitespace-words.ensures ∙ c.in-Some.ensures.steps) c.in_ok-groups.groups c.in_ok-groups.ensures in
    group_other c.args.limit c.in_ok-groups.groups _ _ v c.in_ok-widths.widths c.in_ok-widths.ensures c.if-groups-widths.false
