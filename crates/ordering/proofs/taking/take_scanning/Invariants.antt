use Prim.Native.Nat.{◌≤◌, ◌-◌}
use mathlib.Core.Path.{◌≡◌}
use lib.ListN.{length, drop}
use Rattle.std.specs.Int.NonZero.{non_zero_usize_get}
use Rattle.ordering.specs.Areas.{Counted}
use Rattle.ordering.specs.Taking.{Took}
use Rattle.ordering.proofs.taking.take_scanning.Given as goal

abbrev pub invariant-loop-cells : goal.invariant-loop-cells
invariant-loop-cells l = Took l.initial.area l.next l.keys l.count (non_zero_usize_get l.window) l.taken l.order l.area × (l.taken ≤ length l.order) × (length l.order ≡ length l.initial.order) × (length l.area ≡ length l.initial.area) × (drop l.taken l.order ≡ drop l.taken l.initial.order) × Counted l.count l.area l.cells

abbrev pub decreases-loop-cells : goal.decreases-loop-cells
decreases-loop-cells l = l.count - l.taken
