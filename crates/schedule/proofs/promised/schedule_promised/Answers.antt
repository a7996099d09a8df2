use Rattle.schedule.proofs.Theorems.{promised}
use Rattle.schedule.proofs.promised.schedule_promised.Goals as goal

pub returns : goal.returns
returns c = promised
