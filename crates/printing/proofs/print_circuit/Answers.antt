use Rattle.std.proofs.Common.{◌≤◌, arith}
use Rattle.listing.specs.declared.TheConstants.{LISTED}
use Rattle.printing.proofs.Bounds.{cells_within, front_size, circuit-room}
use Rattle.printing.proofs.Printing.{ordered, printed_accepted, printed_refusal}
use Rattle.printing.proofs.print_circuit.Goals as goal

pub slice_bounds-order-end : goal.slice_bounds-order-end
slice_bounds-order-end g c = omega (arith, cells_within _ _ _ _ _ _ _ _ _ _ _ _ c.order_cells.ensures c.in-Ok.is)

pub slice_bounds-print_lines-end : goal.slice_bounds-print_lines-end
slice_bounds-print_lines-end g c = front_size _ _ (omega (arith, cells_within _ _ _ _ _ _ _ _ _ _ _ _ c.order_cells.ensures c.in-Ok.is))

pub print_lines-requires : goal.print_lines-requires
print_lines-requires g c =
    let n = c.in-Ok.n in
    let h : n ≤ LISTED = omega (arith, cells_within _ _ _ _ _ _ _ _ _ _ _ _ c.order_cells.ensures c.in-Ok.is) in
    rw c.new-line.ensures (circuit-room _ c.order_cells.new.order n c.requires.0 h (omega arith))

pub returns-in-Ok : goal.returns-in-Ok
returns-in-Ok g c =
    let e = ordered c.args.nodes.now c.args.outputs.now _ _ _ _ _ _ _ c.order_cells.ensures c.room-ready.ensures c.room-successors.ensures c.room-order.ensures in
    rw (← printed_accepted c.args.text.now c.args.nodes.now c.args.outputs.now _ _ _ _ e _ c.in-Ok.is) c.print_lines.ensures.printed

pub returns-in-Err : goal.returns-in-Err
returns-in-Err g c =
    let e = ordered c.args.nodes.now c.args.outputs.now _ _ _ _ _ _ _ c.order_cells.ensures c.room-ready.ensures c.room-successors.ensures c.room-order.ensures in
    rw (← printed_refusal c.args.text.now c.args.nodes.now c.args.outputs.now _ _ _ _ e _ c.in-Err.is) c.print_refused.ensures
