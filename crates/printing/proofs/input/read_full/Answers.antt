use Rattle.std.proofs.Common.{◌≤◌, length, length-append, length-take, length-drop, arith}
use Rattle.printing.proofs.Filling.{read_more}
use Rattle.printing.proofs.input.read_full.Goals as goal

pub loop-done-preserved : goal.loop-done-preserved
loop-done-preserved g c =
    let n : c.in_ok-n.n ≤ length c.read.new.buf = c.in_ok-n.ensures.bound.0 in (
      simp (length-append, length-take, length-drop) (omega (arith, n)),
      read_more c.loop-done.done c.loop-done.room c.read.new.buf (omega arith) _ _ _ c.loop-done.invariant.1 c.in_ok-n.n n c.in_ok-n.ensures.bytes.0,
    )
