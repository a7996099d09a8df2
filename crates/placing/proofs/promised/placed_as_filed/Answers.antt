use Rattle.placing.proofs.Filed.{as-filed, filed-definitions}
use Rattle.placing.proofs.promised.placed_as_filed.Goals as goal

pub returns : goal.returns
returns c = λ ds forward. (as-filed ds forward, filed-definitions ds forward)
