use native.Mathlib.Omega.{arith}
use Rattle.readyset.proofs.Levels.{same_test, other_test, mark_same, mark_single, mark_rest, part_room, part_levels}
use Rattle.readyset.proofs.+mark.Goals as goal
use Rattle.readyset.proofs.+mark.Goals.{then-n-lt64-via-then-n-lt64, then-n-lt64-via-else-n-lt64+then-summary_stays}

pub returns-then-n-lt64 : goal.returns-then-n-lt64
returns-then-n-lt64 t c = elim c.then-n-lt64.branch [
  | then-n-lt64-via-then-n-lt64 w ↦ mark_single _ _ _ _ _ c.requires.0 c.requires.1 c.requires.2 c.with_bit-new.ensures w.if-n-lt64.true
  | then-n-lt64-via-else-n-lt64+then-summary_stays w ↦ mark_same _ _ _ _ _ c.requires.0 c.requires.1 c.requires.2 c.with_bit-new.ensures (same_test _ _ w.if-summary_stays.true)
]

pub mark-requires : goal.mark-requires
mark-requires t c = (omega arith, (part_room _ _ _ _ c.requires.0 c.requires.1 c.requires.2 c.if-n-lt64.false, omega arith, part_levels _ _ _ _ c.requires.0 c.requires.1 c.requires.2 c.if-n-lt64.false))

pub returns : goal.returns
returns t c = mark_rest _ _ _ _ _ c.requires.0 c.requires.1 c.requires.2 c.with_bit-new.ensures c.if-n-lt64.false _ c.mark.ensures (other_test _ _ c.if-summary_stays.false)
