use Rattle.std.proofs.Common.{◌+◌, ◌≤◌, length}
use Rattle.lines_replay.proofs.replay.Given as goal

abbrev pub invariant-loop-rest : goal.invariant-loop-rest
invariant-loop-rest g l = (l.records + length l.rest ≤ length l.initial.rest) × (l.same ≤ l.records)

abbrev pub decreases-loop-rest : goal.decreases-loop-rest
decreases-loop-rest g l = length l.rest
