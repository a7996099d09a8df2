use Rattle.relay.proofs.Calls.{bristol_call}
use Rattle.relay.proofs.parsing.relay_parse_bristol.Goals as goal

pub returns : goal.returns
returns c = bristol_call _ _ _ _ _ _ _ _ c.parse_bristol-read.ensures c.answer_read.ensures
