use Prim.Native.Nat.{◌*◌}
use mathlib.Core.Path.{◌≡◌}
use lib.ListN.{length, drop}
use Rattle.ordering.specs.Areas.{Linked}
use Rattle.ordering.proofs.linking.link_all.Given as goal

abbrev pub invariant-loop-done : goal.invariant-loop-done
invariant-loop-done g l = Linked (g.G.Graph.reads l.graph) (length (g.G.Graph.vertices l.graph)) l.done l.area l.next × (length l.area ≡ length l.initial.area) × (length l.next ≡ length l.initial.next) × (drop (2 * length (g.G.Graph.vertices l.graph)) l.area ≡ drop (2 * length (g.G.Graph.vertices l.graph)) l.initial.area)
