use mathlib.Core.Path.{ap, ◌∙◌}
use Rattle.std.proofs.lemmas.Result.{err_from_is_err_and}
use Rattle.text.specs.Blanks.{trimmed}
use Rattle.bench_invocations.proofs.Parts.{some_ok, none_err}
use Rattle.bench_invocations.proofs.Parsing.{malformed, lacks_opening, lacks_closing, more_after, lacks_operation, has_operation}
use Rattle.bench_invocations.proofs.invocation.parse_bench_invocation.Goals.{then-trim-ne0-via-then-trim-ne0, then-trim-ne0-via-else-trim-ne0+then-operation-eq0}
use Rattle.bench_invocations.proofs.invocation.parse_bench_invocation.Goals as goal

pub returns-in_err-opening : goal.returns-in_err-opening
returns-in_err-opening c =
    let p = err_from_is_err_and c.from_residual.result c.from_residual.ensures.1 in
    let none = none_err c.find_byte.result _ _ c.in_err-opening.ensures.value in
    rw (p.1, p.2, none.1) (malformed c.args.text.now _ _ (lacks_opening c.args.text.now c.args.line (none.0 ∙ c.find_byte.ensures)))

pub returns-in_err-closing : goal.returns-in_err-closing
returns-in_err-closing c =
    let p = err_from_is_err_and c.from_residual-in_err-closing.result c.from_residual-in_err-closing.ensures.1 in
    let none = none_err c.find_last_byte.result _ _ c.in_err-closing.ensures.value in
    rw (p.1, p.2, none.1) (malformed c.args.text.now _ _ (lacks_closing c.args.text.now c.args.line (none.0 ∙ c.find_last_byte.ensures)))

pub returns-then-trim-ne0 : goal.returns-then-trim-ne0
returns-then-trim-ne0 c =
    let t = c.args.text.now in
    let opening = some_ok c.find_byte.result _ _ c.in_ok-opening.ensures.value ∙ c.find_byte.ensures in
    let closing = some_ok c.find_last_byte.result _ _ c.in_ok-closing.ensures.value ∙ c.find_last_byte.ensures in
    let after = c.trim.ensures.0 ∙ ap (trimmed t) c.between-after.ensures in
    let operation = c.trim-operation.ensures.0 ∙ ap (trimmed t) c.between.ensures in
    elim c.then-trim-ne0.branch [
      | then-trim-ne0-via-then-trim-ne0 w ↦ malformed t _ _ (more_after t c.args.line _ _ opening closing c.if-closing-opening.false c.trim.result after w.if-trim-ne0.true)
      | then-trim-ne0-via-else-trim-ne0+then-operation-eq0 w ↦ malformed t _ _ (lacks_operation t c.args.line _ _ opening closing c.if-closing-opening.false c.trim.result after w.if-trim-ne0.false c.trim-operation.result operation w.if-operation-eq0.true)
    ]

pub returns : goal.returns
returns c =
    let t = c.args.text.now in
    let opening = some_ok c.find_byte.result _ _ c.in_ok-opening.ensures.value ∙ c.find_byte.ensures in
    let closing = some_ok c.find_last_byte.result _ _ c.in_ok-closing.ensures.value ∙ c.find_last_byte.ensures in
    let after = c.trim.ensures.0 ∙ ap (trimmed t) c.between-after.ensures in
    let operation = c.trim-operation.ensures.0 ∙ ap (trimmed t) c.between.ensures in
    has_operation t c.args.line _ _ opening closing c.if-closing-opening.false c.trim.result after c.if-trim-ne0.false c.trim-operation.result operation c.if-operation-eq0.false c.between-2.result c.between-2.ensures c.invocation_arguments.result c.invocation_arguments.ensures
