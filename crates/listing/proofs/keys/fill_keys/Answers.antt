use mathlib.Core.Path.{◌≡◌, refl}
use native.Mathlib.Omega.{arith}
use lib.ListN.{length-set}
use Rattle.listing.proofs.LineLaws.{keys_none, keys_next}
use Rattle.listing.proofs.keys.fill_keys.Goals as goal

pub loop-i-init : goal.loop-i-init
loop-i-init c = (omega arith, refl, keys_none c.args.keys.now)

pub bounds-keys-at-in-loop-i : goal.bounds-keys-at-in-loop-i
bounds-keys-at-in-loop-i c = simp length-set (omega arith)

pub bounds-keys-at-in-loop-i-2 : goal.bounds-keys-at-in-loop-i-2
bounds-keys-at-in-loop-i-2 c = simp length-set (omega arith)

pub loop-i-preserved : goal.loop-i-preserved
loop-i-preserved c = (omega arith, simp length-set (omega arith), keys_next _ _ (omega arith) c.loop-i.invariant.2)

pub returns : goal.returns
returns c =
    let e : c.loop-i.i ≡ c.args.nodes = omega arith in
    rw e at c.loop-i.invariant.2
