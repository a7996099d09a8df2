use Rattle.std.proofs.Common.{◌∙◌}
use Rattle.cells.proofs.PairAnswers.{pair_answer}
use Rattle.cells.proofs.pairs.pair_value.Goals as goal

pub returns : goal.returns
returns c = pair_answer c.args.table c.args.first c.args.second _ _ c.requires (c.from-first.ensures ∙ c.min.ensures) (c.from-second.ensures ∙ c.min-2.ensures)
