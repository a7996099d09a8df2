use Prim.Native.Nat.{◌+◌, ◌-◌, ◌≤◌, min}
use mathlib.Core.Path.{◌≡◌}
use lib.ListN.{length, drop}
use Rattle.std.specs.Int.NonZero.{non_zero_usize_get}
use Rattle.ordering.specs.Tree.{tree_at, Tracked}
use Rattle.ordering.proofs.Steps.{Onward}
use Rattle.ordering.proofs.taking.take_ranked.Given as goal

abbrev pub invariant-loop-at : goal.invariant-loop-at
invariant-loop-at l = Onward l.count l.next l.keys (non_zero_usize_get l.window) l.done l.initial.order l.initial.area l.taken l.order l.area × (l.taken ≤ length l.order) × (length l.order ≡ length l.initial.order) × (length l.area ≡ length l.initial.area) × (l.done ≤ l.taken) × (drop l.taken l.order ≡ drop l.taken l.initial.order) × Tracked l.count l.keys l.area l.at × (l.at.inside ≡ min (non_zero_usize_get l.window) l.at.number) × (l.root ≡ tree_at l.count + 1)

abbrev pub decreases-loop-at : goal.decreases-loop-at
decreases-loop-at l = l.count - l.taken
