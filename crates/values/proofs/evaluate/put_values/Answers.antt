use Rattle.std.proofs.Common.{◌≡◌, Bool, true, false, not, cond, refl, ap, ◌∙◌}
use mir.Val.{bool_byte}
use Rattle.std.proofs.lemmas.Result.{err_from_is_err_and}
use Rattle.circuit.specs.Records.{node_at, is_cell_node}
use Rattle.values.proofs.Valued.{valued_start, valued_fault, valued_next, valued_answer, valued_all}
use Rattle.values.proofs.evaluate.put_values.Goals as goal

pub loop-i-init : goal.loop-i-init
loop-i-init c = valued_start _ _ _ _

pub returns-in_err-values-clause-checked : goal.returns-in_err-values-clause-checked
returns-in_err-values-clause-checked c =
    let p = err_from_is_err_and c.from_residual.result c.from_residual.ensures.1 in
    rw (p.1, p.2) (valued_fault _ _ _ _ _ _ _ c.loop-i.invariant c.loop-i-test.true _ c.in_err-values.ensures)

-- a test that fails, as a number
other : (b : Bool) → bool_byte (not b) ≡ cond b 0 1
other true = refl
other false = refl

pub loop-i-preserved : goal.loop-i-preserved
loop-i-preserved c =
    valued_next _ _ _ _ _ _ _ c.loop-i.invariant c.loop-i-test.true c.requires.stored c.requires.known _ c.in_ok-values.ensures _
    (c.from.ensures ∙ ap (λ (b : Bool). bool_byte (not b)) c.is_cell.ensures ∙ other (is_cell_node (node_at c.args.nodes.words.now c.loop-i.i)))

pub returns-clause-checked : goal.returns-clause-checked
returns-clause-checked c = valued_answer _ _ _ _ _ _ _ c.loop-i.invariant c.loop-i-test.false

pub returns-clause-worked_out : goal.returns-clause-worked_out
returns-clause-worked_out c = λ q. valued_all _ _ _ _ _ _ _ c.loop-i.invariant c.loop-i-test.false
