use mathlib.Core.Path.{sym, ◌∙◌}
use Prim.Native.Nat.{◌-◌}
use Rattle.runs.proofs.Marking.{mark_there, mark_outside, mark_inside, mark_twice}
use Rattle.runs.proofs.fitness.mark.Goals as goal

pub returns-in_default : goal.returns-in_default
returns-in_default c = λ taken m. mark_outside c.args.lo c.args.marks.now c.args.x taken m c.in_default.ensures

pub returns-then-table_entry-ne0 : goal.returns-then-table_entry-ne0
returns-then-table_entry-ne0 c =
    let p = c.in-Some.ensures in
    let e = mark_there c.args.marks.now (c.args.x - c.args.lo) c.in-Some.w c.in-Some.j p.1 p.2 in
    λ taken m. mark_twice c.args.lo c.args.marks.now c.args.x taken m _ p.0 p.3 (λ z. c.if-table_entry-ne0.true (c.table_entry.ensures ∙ e ∙ z))

pub returns : goal.returns
returns c =
    let p = c.in-Some.ensures in
    let e = mark_there c.args.marks.now (c.args.x - c.args.lo) c.in-Some.w c.in-Some.j p.1 p.2 in
    λ taken m. rw (c.set_table_entry.ensures, p.1, p.2) (mark_inside c.args.lo c.args.marks.now c.args.x taken m p.0 p.3 (sym e ∙ sym c.table_entry.ensures ∙ c.if-table_entry-ne0.false))
