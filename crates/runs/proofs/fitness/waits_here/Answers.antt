use mathlib.Core.Path.{sym, ◌∙◌}
use Prim.Native.Nat.{◌-◌}
use native.Mathlib.Omega.{arith}
use borrow.Author.Tests.{ne_eqb}
use Rattle.runs.specs.Fit.{block_size}
use Rattle.runs.proofs.Marking.{block_in, mark_there, here_out, here_clear, here_marked}
use Rattle.runs.proofs.fitness.waits_here.Goals as goal

pub returns-in_default : goal.returns-in_default
returns-in_default c = here_out c.args.nodes.words.now c.args.lo c.args.marks.now c.args.k c.in_default.ensures

pub returns-then-table_entry-eq0 : goal.returns-then-table_entry-eq0
returns-then-table_entry-eq0 c =
    let p = c.in-Some.ensures in
    let e = mark_there c.args.marks.now (c.args.k - c.args.lo) c.in-Some.w c.in-Some.j p.1 p.2 in
    c.is_cell.ensures ∙ here_clear c.args.nodes.words.now c.args.lo c.args.marks.now c.args.k (block_in c.args.lo (block_size c.args.marks.now) c.args.k p.0 (omega (arith, p.3))) (sym e ∙ sym c.table_entry.ensures ∙ c.if-table_entry-eq0.true)

pub returns-else-table_entry-eq0 : goal.returns-else-table_entry-eq0
returns-else-table_entry-eq0 c =
    let p = c.in-Some.ensures in
    let e = mark_there c.args.marks.now (c.args.k - c.args.lo) c.in-Some.w c.in-Some.j p.1 p.2 in
    rw (ne_eqb _ _ c.if-table_entry-eq0.false) (here_marked c.args.nodes.words.now c.args.lo c.args.marks.now c.args.k (block_in c.args.lo (block_size c.args.marks.now) c.args.k p.0 (omega (arith, p.3))) (λ z. c.if-table_entry-eq0.false (c.table_entry.ensures ∙ e ∙ z)))
