use mathlib.Core.Path.{◌∙◌}
use Rattle.relay.proofs.Calls.{assigned_given}
use Rattle.relay.proofs.running.relay_exhaustive_inputs.Goals as goal

pub returns : goal.returns
returns c = assigned_given _ _ _ _ c.answer_counted.ensures ∙ c.exhaustive_inputs-numbered.ensures
