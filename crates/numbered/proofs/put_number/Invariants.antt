use mathlib.Core.Path.{◌≡◌}
use mathlib.Core.List.{◌++◌}
use lib.ListN.{take, drop}
use Rattle.numbered.specs.Numbered.{numbered}
use Rattle.numbered.proofs.put_number.Given as goal

abbrev pub invariant-loop-p : goal.invariant-loop-p
invariant-loop-p l = l.value-items ≡ take l.p (numbered l.n l.number) ++ drop l.p l.initial.value-items
