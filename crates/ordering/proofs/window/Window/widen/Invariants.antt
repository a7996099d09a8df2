use mathlib.Core.Path.{◌≡◌}
use Rattle.ordering.specs.Tree.{Fronted, Tracked}
use Rattle.ordering.proofs.window.Window.widen.Given as goal

abbrev pub invariant-loop-under : goal.invariant-loop-under
invariant-loop-under l = Tracked l.count l.keys l.area l.at × (l.at.number ≡ l.initial.at.number) × Fronted l.count l.initial.area l.area × (l.at.inside ≡ l._under)
