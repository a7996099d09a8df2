use Rattle.runs.proofs.Putting.{put_start, put_given, put_next, put_all}
use Rattle.runs.proofs.inputs.put_inputs.Goals as goal

pub loop-k-init : goal.loop-k-init
loop-k-init c = put_start _ _ _ _ c.requires.one_each

pub put_input-input-requires-clause-given : goal.put_input-input-requires-clause-given
put_input-input-requires-clause-given c = put_given _ _ _ _ _ _ _ c.loop-k.invariant c.loop-k-test.true

pub loop-k-preserved : goal.loop-k-preserved
loop-k-preserved c = put_next _ _ _ _ _ _ _ c.loop-k.invariant c.loop-k-test.true _ _ c.put_input-input.ensures

pub returns : goal.returns
returns c = put_all _ _ _ _ _ _ _ c.loop-k.invariant c.loop-k-test.false
