use Prim.Native.Nat.{◌*◌, ◌-◌, ◌≤◌}
use mathlib.Core.Path.{◌≡◌}
use lib.ListN.{length, take}
use Rattle.listing.specs.declared.keys.TheConstants.{KEY_LEN}
use Rattle.listing.specs.Listing.{keys_from}
use Rattle.listing.proofs.keys.fill_keys.Given as goal

abbrev pub invariant-loop-i : goal.invariant-loop-i
invariant-loop-i l = (l.i ≤ l.nodes) × (length l.keys ≡ length l.initial.keys) × (take (l.i * KEY_LEN) l.keys ≡ keys_from 0 l.i)

abbrev pub decreases-loop-i : goal.decreases-loop-i
decreases-loop-i l = l.nodes - l.i
