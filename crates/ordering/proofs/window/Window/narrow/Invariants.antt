use Prim.Native.Nat.{◌+◌}
use mathlib.Core.Path.{◌≡◌}
use Rattle.ordering.specs.Tree.{Fronted, Tracked}
use Rattle.ordering.proofs.window.Window.narrow.Given as goal

abbrev pub invariant-loop-over : goal.invariant-loop-over
invariant-loop-over l = Tracked l.count l.keys l.area l.at × (l.at.number ≡ l.initial.at.number) × Fronted l.count l.initial.area l.area × (l.at.inside + l._over ≡ l.window + l.initial.at.inside)
