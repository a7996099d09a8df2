use mathlib.Core.Path.{◌≡◌}
use Prim.Native.Nat.{◌≤◌}
use lib.ListN.{length}
use Rattle.names.specs.Chains.{entries}
use Rattle.reading.proofs.Resolving.{Mid}
use Rattle.reading.proofs.outputs.resolve_outputs.Given as goal

abbrev pub invariant-loop-j : goal.invariant-loop-j
invariant-loop-j g l = (l.j ≤ l.n) × (length l.outputs ≡ length l.initial.outputs) × Mid g.F.Names.constants l.table.text.now (entries l.table.names.now l.table.count) l.initial.outputs l.outputs l.n l.j
