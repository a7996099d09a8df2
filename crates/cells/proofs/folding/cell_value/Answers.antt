use Rattle.std.proofs.Common.{sym, ◌∙◌}
use Rattle.cells.proofs.Folds.{folded_start, folded_next, folded_all, verdict_one, verdict_none, verdict_two}
use Rattle.cells.proofs.folding.cell_value.Goals as goal

pub loop-value-init : goal.loop-value-init
loop-value-init c = folded_start c.args.table c.args.values.now c.requires

pub loop-value-preserved : goal.loop-value-preserved
loop-value-preserved c = folded_next _ _ _ _ _ _ c.loop-value.invariant c.loop-value-test.true _ _ c.narrowed-left.ensures

pub returns-then-left-eq1 : goal.returns-then-left-eq1
returns-then-left-eq1 c = verdict_one _ _ c.if-left-eq1.true ∙ sym (folded_all _ _ _ _ _ _ c.loop-value.invariant c.loop-value-test.false)

pub returns-then-left-eq0 : goal.returns-then-left-eq0
returns-then-left-eq0 c = verdict_none _ _ c.if-left-eq1.false c.if-left-eq0.true ∙ sym (folded_all _ _ _ _ _ _ c.loop-value.invariant c.loop-value-test.false)

pub returns : goal.returns
returns c = verdict_two _ _ c.if-left-eq1.false c.if-left-eq0.false ∙ sym (folded_all _ _ _ _ _ _ c.loop-value.invariant c.loop-value-test.false)
