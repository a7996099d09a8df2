use Rattle.std.proofs.Common.{sym, ap, subst, ◌∙◌}
use Rattle.circuit.specs.Records.{wire_word, HasWord}
use Rattle.circuit.proofs.records.wire_word.Goals as goal

pub node_word-requires : goal.node_word-requires
node_word-requires c = subst HasWord c.in-Node.is c.requires

pub returns-in-Node : goal.returns-in-Node
returns-in-Node c = c.node_word.ensures ∙ sym (ap wire_word c.in-Node.is)
