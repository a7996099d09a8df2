use mathlib.Core.Path.{ap, ◌∙◌}
use Rattle.std.proofs.lemmas.Result.{err_from_is_err_and}
use Rattle.bench.specs.Bench.{declaration_of}
use Rattle.bench.proofs.Planning.{name_refused, name_malformed, more_names, one_name}
use Rattle.bench.proofs.declarations.declared_name.Goals as goal

pub returns-in_err-invocation : goal.returns-in_err-invocation
returns-in_err-invocation c =
    let p = err_from_is_err_and c.from_residual.result c.from_residual.ensures.1 in
    rw (p.1, p.2) (name_refused c.args.text.now _ _ (name_malformed c.args.text.now c.args.line _ c.in_err-invocation.ensures.is))

pub returns : goal.returns
returns c = record {
  is = one_name c.args.text.now c.args.line c.in_ok-invocation.invocation c.in_ok-invocation.ensures.is _ c.arguments_at-names.ensures.all c.in-Some-None.name _ c.in-Some-None.ensures.steps.first c.in-Some-None.ensures'.steps.first.0 c.declaration_of.result (c.declaration_of.ensures ∙ ap declaration_of c.bytes.ensures);
  inside = rw c.arguments_at-names.ensures.same_text at c.in-Some-None.ensures.steps.is_argument.0;
}

pub returns-in_default : goal.returns-in_default
returns-in_default c = name_refused c.args.text.now _ _ (more_names c.args.text.now c.args.line c.in_ok-invocation.invocation c.in_ok-invocation.ensures.is _ c.arguments_at-names.ensures.all _ _ c.in_default.ensures.steps.first _ _ c.in_default.ensures'.steps.first)
