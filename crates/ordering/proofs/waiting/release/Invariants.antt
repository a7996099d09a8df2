use mathlib.Core.Path.{◌≡◌}
use lib.ListN.{length}
use Rattle.ordering.specs.Areas.{Counted}
use Rattle.ordering.proofs.Freeing.{Descended}
use Rattle.ordering.proofs.waiting.release.Given as goal

abbrev pub invariant-loop-edge : goal.invariant-loop-edge
invariant-loop-edge l = Descended l.count l.next l.node l.initial.area l.initial.edge l.area l.edge × (length l.area ≡ length l.initial.area) × Counted l.count l.area l.left

abbrev pub decreases-loop-edge : goal.decreases-loop-edge
decreases-loop-edge l = l.edge
