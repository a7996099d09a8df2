use mathlib.Core.Path.{◌∙◌}
use Rattle.text.proofs.NumberLaws.{number_plus, number_plain}
use Rattle.text.proofs.numbers.parse_usize.Goals as goal

pub returns-in-Some : goal.returns-in-Some
returns-in-Some c = rw (← c.in-Some.ensures.cases.1) c.parse_digits.ensures ∙ number_plus c.args.bytes.now c.in-Some.ensures.cases.0

pub returns-in-None : goal.returns-in-None
returns-in-None c = c.parse_digits-in-None.ensures ∙ number_plain c.args.bytes.now c.in-None.ensures.cases
