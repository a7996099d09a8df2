use Prim.Native.Nat.{◌+◌, ◌-◌, ◌≤◌, min}
use mathlib.Core.Path.{◌≡◌}
use Rattle.laws.specs.Stretches.{stretch, run}
use Rattle.text.specs.Eights.{outside}
use Rattle.text.proofs.eights.find_between.Given as goal

abbrev pub invariant-loop-i : goal.invariant-loop-i
invariant-loop-i l = (l.from ≤ l.i) × (min l.i l.end + run (outside l.limits.low l.limits.high) (stretch l.text l.i (l.end - l.i)) ≡ l.from + run (outside l.limits.low l.limits.high) (stretch l.text l.from (l.end - l.from)))

abbrev pub decreases-loop-i : goal.decreases-loop-i
decreases-loop-i l = l.end - l.i
