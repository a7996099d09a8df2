use Rattle.schedule.proofs.Call.{call_refused, call_ordered, call_orderable}
use Rattle.schedule.proofs.scheduled_gates_by_key.Goals as goal

pub order_or_circle-requires : goal.order_or_circle-requires
order_or_circle-requires c = call_orderable _ _ _ _ c.args.ready.now c.args.successors.now c.args.order.now _ c.call_fault-fault.ensures c.in-Ok.is

pub returns-in-Err : goal.returns-in-Err
returns-in-Err c = call_refused _ _ _ _ c.args.ready.now c.args.successors.now c.args.order.now _ c.call_fault-fault.ensures _ c.in-Err.is _ _ _ c.clear_all.ensures.0 c.clear_all.ensures.1 c.clear_all.ensures.2

pub returns-in-Ok : goal.returns-in-Ok
returns-in-Ok c = call_ordered _ _ _ _ c.args.ready.now c.args.successors.now c.args.order.now _ c.call_fault-fault.ensures c.in-Ok.is _ c.order_or_circle.ensures
