use native.Mathlib.Omega.{arith}
use Rattle.ordering.proofs.Keeping.{inside_few}
use Rattle.ordering.proofs.window.Window.widen.Goals as goal

pub returns : goal.returns
returns c = (c.loop-under.invariant.0, omega (arith, c.min-under-end.ensures, c.loop-under.invariant.3, inside_few _ _ _ _ c.loop-under.invariant.0), c.loop-under.invariant.1, c.loop-under.invariant.2)
