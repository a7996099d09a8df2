use Rattle.std.proofs.lemmas.Result.{err_from_is_err_and}
use Rattle.schedule.proofs.Call.{fault_records, fault_window, fault_keys, fault_room, fault_none}
use Rattle.schedule.proofs.checks.call_fault.Goals as goal

pub returns-in_err-check_records : goal.returns-in_err-check_records
returns-in_err-check_records c = let p = err_from_is_err_and c.from_residual.result c.from_residual.ensures.1 in rw (p.1, p.2) (fault_records _ _ _ _ _ _ _ _ c.check_records.ensures _ c.in_err-check_records.was)

pub returns-then-window-eq0 : goal.returns-then-window-eq0
returns-then-window-eq0 c = fault_window _ _ _ _ _ _ _ _ c.check_records.ensures c.in_ok-check_records.was c.if-window-eq0.true

pub returns-then-keys-n : goal.returns-then-keys-n
returns-then-keys-n c = fault_keys _ _ _ _ _ _ _ _ c.check_records.ensures c.in_ok-check_records.was c.if-window-eq0.false c.if-keys-n.true

pub returns-then-not-has_room : goal.returns-then-not-has_room
returns-then-not-has_room c = fault_room _ _ _ _ _ _ _ _ c.check_records.ensures c.in_ok-check_records.was c.if-window-eq0.false c.if-keys-n.false _ c.has_room.ensures c.if-not-has_room.true

pub returns : goal.returns
returns c = fault_none _ _ _ _ _ _ _ _ c.check_records.ensures c.in_ok-check_records.was c.if-window-eq0.false c.if-keys-n.false _ c.has_room.ensures c.if-not-has_room.false
