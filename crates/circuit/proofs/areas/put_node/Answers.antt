use Rattle.circuit.specs.declared.records.TheConstants.{NODE_WORDS}
use mathlib.Core.Path.{◌∙◌, ap}
use mathlib.Core.List.{List}
use Prim.Native.Nat.{ℕ, ◌*◌}
use Rattle.laws.specs.Areas.{stored}
use Rattle.circuit.proofs.areas.put_node.Goals as goal

pub returns : goal.returns
returns c = c.put.ensures ∙ ap (λ (l : List ℕ). stored c.args.nodes.now (c.args.i * NODE_WORDS) l) c.node_words-words.ensures
