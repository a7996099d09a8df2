use Rattle.std.proofs.Common.{ℕ, not, rules, arith}
use mathlib.Core.Path.{◌∙◌}
use Rattle.std.proofs.lemmas.Iterator.{YieldsList-from_range}
use Rattle.std.proofs.lemmas.Iterator.Consumers.{YieldsList-from_filter, count_from_yields_List}
use Rattle.circuit.specs.Records.{node_at, is_cell_node}
use Rattle.values.proofs.Inputs.{counted_inputs}
use Rattle.values.proofs.assignments.count_inputs.Goals as goal

pub returns : goal.returns
returns c =
    let nodes = c.args.nodes.words.now in
    let n = c.args.nodes.count in
    count_from_yields_List _ _ c.count.ensures.ran (YieldsList-from_filter _ (λ (k : ℕ). not (is_cell_node (node_at nodes k))) (YieldsList-from_range 0 n n c.filter.ensures.source (omega arith)) c.filter.ensures.closure (λ x b q k. search rules))
    ∙ counted_inputs (node_at nodes) 0 n
