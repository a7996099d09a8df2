use mathlib.Core.Path.{sym, ◌∙◌}
use native.Mathlib.Omega.{arith}
use borrow.Author.Tests.{ltb-true, ltb-false, leb-true}
use Rattle.schedule.proofs.Call.{room-ready, room_successors, room-order}
use Rattle.schedule.proofs.checks.has_room.Goals as goal
use Rattle.schedule.proofs.checks.has_room.Goals.{then-n-ready, else-n-ready}

pub returns-then-n-successors : goal.returns-then-n-successors
returns-then-n-successors c = elim c.if-n-ready.branch [ then-n-ready w ↦ room-order _ _ _ _ w.if-n-ready.true (omega (arith, ltb-true _ _ (sym w.value-is ∙ c.if-n-successors.true))) | else-n-ready w ↦ absurd (omega (arith, leb-true _ _ (sym w.value-is ∙ c.if-n-successors.true), w.if-n-ready.false)) ]

pub returns-else-n-successors : goal.returns-else-n-successors
returns-else-n-successors c = rw c.if-n-successors.false (elim c.if-n-ready.branch [ then-n-ready w ↦ room_successors _ _ _ _ w.if-n-ready.true (omega (arith, ltb-false _ _ (sym w.value-is ∙ c.if-n-successors.false))) | else-n-ready w ↦ room-ready _ _ _ _ w.if-n-ready.false ])
