use mathlib.Core.Path.{refl}
use native.Mathlib.Omega.{arith}
use Rattle.runs.specs.Fit.{block_size}
use Rattle.runs.proofs.Marking.{low_out, place_told}
use Rattle.runs.proofs.fitness.mark_place.Goals as goal

pub returns-in_err-i : goal.returns-in_err-i
returns-in_err-i c = rw c.from_residual.ensures (low_out c.args.lo (block_size c.args.marks.now) c.args.x (omega (arith, c.in_err-i.ensures)))

pub returns : goal.returns
returns c = place_told c.args.lo c.args.marks.now c.args.x c.in_ok-i.i (omega (arith, c.in_ok-i.ensures)) (omega (arith, c.in_ok-i.ensures)) _ c.then_some.ensures refl
