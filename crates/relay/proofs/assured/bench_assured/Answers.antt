use Rattle.relay.proofs.Chained.{bench-assured}
use Rattle.relay.proofs.assured.bench_assured.Goals as goal

pub returns : goal.returns
returns c = bench-assured
