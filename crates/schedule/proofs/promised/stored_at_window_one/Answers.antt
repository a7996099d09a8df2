use Rattle.schedule.proofs.Theorems.{stored-one}
use Rattle.schedule.proofs.promised.stored_at_window_one.Goals as goal

pub returns : goal.returns
returns c = stored-one
