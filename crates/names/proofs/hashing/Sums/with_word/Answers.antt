use Rattle.std.proofs.Common.{refl}
use Rattle.names.specs.Chains.{mix_in}
use Rattle.names.proofs.hashing.Sums.with_word.Goals as goal

pub returns-clause-mix_value : goal.returns-clause-mix_value
unfolding mix_in
returns-clause-mix_value c = rw (c.from.ensures, c.from-2.ensures) refl
