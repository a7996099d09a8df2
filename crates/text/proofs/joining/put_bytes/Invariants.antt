use Rattle.std.proofs.Common.{◌≡◌, ◌++◌, take, drop}
use Rattle.text.proofs.joining.put_bytes.Given as goal

abbrev pub invariant-loop-k : goal.invariant-loop-k
invariant-loop-k l = l.byte-items ≡ take l.k l.bytes ++ drop l.k l.initial.byte-items
