use lib.ListN.{length}
use Rattle.reading.proofs.Outer.{concluded_refused, concluded_sound}
use Rattle.reading.proofs.areas.conclude.Goals as goal

pub returns-in-Err : goal.returns-in-Err
returns-in-Err c = λ text used x joins ends. concluded_refused text used x c.args.joined.now c.args.nodes.now c.args.outputs.now (length c.args.names.now) joins c.in-Err.e (rw c.in-Err.is at ends) _ _ _ _ _ c.refuse.ensures

pub returns-in-Ok : goal.returns-in-Ok
returns-in-Ok c = λ text used x joins ends. concluded_sound text used x c.args.joined.now c.args.nodes.now c.args.outputs.now (length c.args.names.now) joins c.in-Ok.sizes (rw c.in-Ok.is at ends) _ (c.fill.ensures.after (λ y q. q))
