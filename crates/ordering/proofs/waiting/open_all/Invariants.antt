use Rattle.ordering.specs.Areas.{Counted}
use Rattle.ordering.proofs.Chains.{Opening}
use Rattle.ordering.proofs.waiting.open_all.Given as goal

abbrev pub invariant-loop-node : goal.invariant-loop-node
invariant-loop-node g l = Opening (g.G.Graph.reads l.graph) (g.G.Graph.vertices l.graph) l.count l.initial.area l.node l.area × Counted l.count l.area l.cells
