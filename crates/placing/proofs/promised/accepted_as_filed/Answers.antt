use Rattle.placing.proofs.Accepted.{accepted-filed}
use Rattle.placing.proofs.promised.accepted_as_filed.Goals as goal

pub returns : goal.returns
returns c = accepted-filed
