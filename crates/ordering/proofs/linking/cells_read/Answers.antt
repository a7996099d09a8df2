use Rattle.std.proofs.Common.{rules, arith}
use Prim.Native.Nat.{◌+◌, ◌*◌}
use Rattle.graphs.specs.declared.TheConstants.{READS}
use mathlib.Core.Path.{◌∙◌}
use Rattle.std.proofs.lemmas.Iterator.{YieldsList-from_range}
use Rattle.std.proofs.lemmas.Iterator.Consumers.{YieldsList-from_filter, count_from_yields_List}
use Rattle.ordering.specs.Areas.{linked}
use Rattle.ordering.proofs.Edges.{passing-counted}
use Rattle.ordering.proofs.linking.cells_read.Goals as goal

pub returns : goal.returns
returns g c =
    let reads = g.G.Graph.reads c.args.graph.now in
    let first = READS * c.args.node + 1 in
    count_from_yields_List _ _ c.count.ensures.ran (YieldsList-from_filter _ (λ k. linked reads (first + k)) (YieldsList-from_range 0 READS READS c.filter.ensures.source (omega arith)) c.filter.ensures.closure (λ x b q k. search rules))
    ∙ passing-counted (linked reads) c.args.node
