use Rattle.placing.proofs.Windows.{by-schedule}
use Rattle.placing.proofs.promised.placed_by_schedule.Goals as goal

pub returns : goal.returns
returns c = λ ds key. by-schedule ds key
