use Rattle.values.proofs.Calls.{no_store, no_answers, has_room}
use Rattle.values.proofs.outputs.room_fault.Goals.{then-store-nodes-via-then-store-nodes, then-store-nodes-via-else-store-nodes+then-answers-outputs}
use Rattle.values.proofs.outputs.room_fault.Goals as goal

pub returns-then-store-nodes : goal.returns-then-store-nodes
returns-then-store-nodes c = elim c.then-store-nodes.branch [
  | then-store-nodes-via-then-store-nodes w ↦ no_store c.args.nodes.now c.args.outputs.now c.args.store c.args.answers w.if-store-nodes.true
  | then-store-nodes-via-else-store-nodes+then-answers-outputs w ↦ no_answers c.args.nodes.now c.args.outputs.now c.args.store c.args.answers w.if-store-nodes.false w.if-answers-outputs.true
]

pub returns : goal.returns
returns c = has_room c.args.nodes.now c.args.outputs.now c.args.store c.args.answers c.if-store-nodes.false c.if-answers-outputs.false
