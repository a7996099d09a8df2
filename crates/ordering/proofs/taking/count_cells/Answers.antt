use Rattle.std.proofs.Common.{rules, arith}
use mathlib.Core.Path.{◌∙◌}
use Rattle.std.proofs.lemmas.Iterator.{YieldsList-from_range}
use Rattle.std.proofs.lemmas.Iterator.Consumers.{YieldsList-from_filter, count_from_yields_List}
use Rattle.graphs.specs.Graph.{is_cell}
use Rattle.ordering.proofs.Whole.{counted}
use Rattle.ordering.proofs.taking.count_cells.Goals as goal

pub returns : goal.returns
returns g c =
    let vertices = g.G.Graph.vertices c.args.graph.now in
    let n = c.count.result in
    count_from_yields_List _ _ c.count-2.ensures.ran (YieldsList-from_filter _ (is_cell vertices) (YieldsList-from_range 0 n n c.filter.ensures.source (omega arith)) c.filter.ensures.closure (λ x b q k. search rules))
    ∙ counted vertices n c.count.ensures
