use native.Mathlib.Omega.{arith}
use Rattle.printing.proofs.Bounds.{front_size}
use Rattle.printing.proofs.order_cells.Goals as goal

pub slice_bounds-scheduled_gates_by_key-end-2 : goal.slice_bounds-scheduled_gates_by_key-end-2
slice_bounds-scheduled_gates_by_key-end-2 c = front_size _ _ (omega arith)

pub returns : goal.returns
returns c = rw c.fill_keys.ensures at c.scheduled_gates_by_key.ensures
