use Rattle.circuit.proofs.Codes.{output_list}
use Rattle.circuit.proofs.records.output_words.Goals as goal

pub returns : goal.returns
returns c = output_list c.args.o _ _ c.from.ensures c.wire_word.ensures
