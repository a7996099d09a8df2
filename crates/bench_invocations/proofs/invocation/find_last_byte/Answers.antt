use mathlib.Core.Path.{◌∙◌}
use Rattle.std.proofs.Common.{rules, tests}
use Rattle.bench_invocations.proofs.Parts.{no_last, last_found}
use Rattle.bench_invocations.proofs.invocation.find_last_byte.Goals as goal

pub returns-in_err-last : goal.returns-in_err-last
returns-in_err-last c = c.from_residual.ensures ∙ no_last c.args.x c.args.text.now c.args.word c.bytes.result.now c.bytes.ensures (λ k h. search (rules, tests))

pub returns : goal.returns
returns c = last_found c.args.x c.args.text.now c.args.word c.bytes.result.now c.bytes.ensures c.in_ok-last.last (search (rules, tests)) (search (rules, tests)) (λ k h j. search (rules, tests))
