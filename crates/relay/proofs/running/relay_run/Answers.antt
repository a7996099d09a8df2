use mathlib.Core.Path.{◌∙◌}
use Rattle.relay.proofs.Calls.{result_given}
use Rattle.relay.proofs.running.relay_run.Goals as goal

pub returns : goal.returns
returns c = result_given _ _ _ _ _ c.answer_counted.ensures ∙ c.run-ran.ensures
