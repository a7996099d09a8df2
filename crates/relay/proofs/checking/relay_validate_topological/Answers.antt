use mathlib.Core.Path.{ap, ◌∙◌}
use Rattle.circuit.specs.Refusals.{checked_number}
use Rattle.relay.proofs.checking.relay_validate_topological.Goals as goal

pub returns : goal.returns
returns c = c.answer_number.ensures ∙ ap checked_number c.validate_topological-checked.ensures
