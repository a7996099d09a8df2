use mathlib.Core.Path.{◌∙◌}
use Rattle.relay.proofs.Calls.{result_given}
use Rattle.relay.proofs.running.relay_evaluate.Goals as goal

pub returns : goal.returns
returns c = result_given _ _ _ _ _ c.answer_counted.ensures ∙ c.evaluate-evaluated.ensures
