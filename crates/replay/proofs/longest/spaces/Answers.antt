use mathlib.Core.Path.{sym}
use Prim.Native.Nat.{ℕ}
use lib.ListN.{length-replicate}
use Rattle.replay.specs.declared.longest.TheConstants.{TOO_LONG}
use Rattle.replay.proofs.longest.spaces.Goals as goal

pub returns : goal.returns
returns c = sym (length-replicate {0} {A = ℕ} TOO_LONG 32)
