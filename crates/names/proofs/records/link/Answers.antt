use Rattle.std.proofs.Common.{refl}
use Rattle.names.specs.Chains.{link_of, link_at}
use Rattle.names.proofs.records.link.Goals as goal

pub returns : goal.returns
unfolding link_at link_of
returns c = refl
