use Prim.Native.Nat.{◌-◌, ◌^◌}
use mathlib.Core.Path.{◌≡◌}
use lib.ListN.{length}
use Rattle.cover.specs.Cover.{set_from, set_row}
use Rattle.cover.proofs.rows.set_row.Given as goal

abbrev pub invariant-loop-j : goal.invariant-loop-j
invariant-loop-j l = set_from l.pattern l.value l.j (2 ^ length l.pattern - l.j) l.t ≡ set_row (length l.pattern) l.pattern l.value l.table
