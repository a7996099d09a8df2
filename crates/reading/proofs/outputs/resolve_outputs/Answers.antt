use Rattle.std.specs.Prelude.{None, Some}
use Rattle.std.proofs.lemmas.Result.{err_from_is_err_and}
use mathlib.Core.Path.{◌≡◌, refl, sym, ap, ◌∙◌}
use native.Mathlib.Omega.{arith}
use Rattle.reading.specs.Holding.{entries_of, put_wire}
use Rattle.reading.proofs.Resolving.{mid_start, mid_inside, mid_none, mid_step, mid_end, answer_none, answer_empty, answer_some, undriven}
use Rattle.reading.proofs.outputs.resolve_outputs.Goals as goal

pub loop-j-init : goal.loop-j-init
loop-j-init g c = (omega arith, refl, mid_start g.F.Names.constants c.args.table.now.text.now (entries_of c.args.table.now) c.args.outputs.now c.args.n c.requires.clean)

pub resolve_at-requires : goal.resolve_at-requires
resolve_at-requires g c = record { j_in_area = omega (arith, c.loop-j.invariant.1, c.requires.room, c.loop-j-test.true); word_in_text = mid_inside g.F.Names.constants c.args.table.now.text.now (entries_of c.args.table.now) c.args.outputs.now c.args.n c.loop-j.outputs c.loop-j.j c.loop-j-test.true c.loop-j.invariant.2 c.requires.inside }

pub returns-in_err-ok_or : goal.returns-in_err-ok_or
returns-in_err-ok_or g c =
    let p = err_from_is_err_and c.from_residual.result c.from_residual.ensures.1 in
    let none : c.resolve_at.result ≡ None = c.in_err-ok_or.ensures.ok_part in
    rw (p.1, p.2, undriven none c.in_err-ok_or.ensures.value) (answer_none g.F.Names.constants c.args.table.now.text.now (entries_of c.args.table.now) c.args.outputs.now c.args.n _ (mid_none g.F.Names.constants c.args.table.now.text.now (entries_of c.args.table.now) c.args.outputs.now c.args.n c.loop-j.outputs c.loop-j.j c.loop-j-test.true c.loop-j.invariant.2 (sym c.resolve_at.ensures.wire ∙ none)))

pub loop-j-preserved : goal.loop-j-preserved
loop-j-preserved g c =
    let found : c.resolve_at.result ≡ Some _ = c.in_ok-ok_or.ensures.ok_part in
    (omega (arith, c.loop-j-test.true), c.resolve_at.auto.outputs ∙ c.loop-j.invariant.1, mid_step g.F.Names.constants c.args.table.now.text.now (entries_of c.args.table.now) c.args.outputs.now c.args.n c.loop-j.outputs c.loop-j.j c.loop-j-test.true c.loop-j.invariant.2 _ (sym c.resolve_at.ensures.wire ∙ found) c.resolve_at.new.outputs (c.resolve_at.ensures.stored ∙ ap (put_wire c.loop-j.outputs c.loop-j.j) found) c.resolve_at.auto.outputs)

pub shape_of-outputs-then-n-eq0 : goal.shape_of-outputs-then-n-eq0
shape_of-outputs-then-n-eq0 g c = c.loop-j.invariant.1

pub returns-then-n-eq0 : goal.returns-then-n-eq0
returns-then-n-eq0 g c = answer_empty g.F.Names.constants c.args.table.now.text.now (entries_of c.args.table.now) c.args.outputs.now c.args.n c.loop-j.outputs c.if-n-eq0.true (mid_end g.F.Names.constants c.args.table.now.text.now (entries_of c.args.table.now) c.args.outputs.now c.args.n c.loop-j.outputs c.loop-j.j (omega arith) c.loop-j.invariant.2)

pub shape_of-outputs : goal.shape_of-outputs
shape_of-outputs g c = c.loop-j.invariant.1

pub returns : goal.returns
returns g c = answer_some g.F.Names.constants c.args.table.now.text.now (entries_of c.args.table.now) c.args.outputs.now c.args.n c.loop-j.outputs (omega (arith, c.loop-j.invariant.1, c.requires.room)) c.loop-j.invariant.2.clean c.if-n-eq0.false (mid_end g.F.Names.constants c.args.table.now.text.now (entries_of c.args.table.now) c.args.outputs.now c.args.n c.loop-j.outputs c.loop-j.j (omega arith) c.loop-j.invariant.2)
