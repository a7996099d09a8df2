use lib.ListN.{length}
use Rattle.blif.specs.Blif.{blif}
use Rattle.relay.proofs.Calls.{joined_call}
use Rattle.relay.proofs.parsing.relay_parse_blif.Goals as goal

pub returns : goal.returns
returns c = joined_call blif c.args.text.now (length c.args.joined.now) (length c.args.nodes.now) (length c.args.names.now) (length c.args.outputs.now) _ _ _ _ _ _ _ _ c.parse_blif-read.ensures c.answer_read.ensures
