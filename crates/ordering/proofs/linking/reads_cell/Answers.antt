use mathlib.Core.Path.{◌∙◌}
use Rattle.ordering.proofs.Chains.{word_is}
use Rattle.ordering.proofs.linking.reads_cell.Goals as goal

pub returns : goal.returns
returns g c = c.is_some.ensures ∙ word_is _ _ _ c.source.ensures
