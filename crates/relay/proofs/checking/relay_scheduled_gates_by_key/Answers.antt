use Rattle.relay.proofs.Calls.{order_call}
use Rattle.relay.proofs.checking.relay_scheduled_gates_by_key.Goals as goal

pub returns : goal.returns
returns c = order_call _ _ _ _ _ _ _ c.scheduled_gates_by_key-ordered.ensures c.answer_counted.ensures
