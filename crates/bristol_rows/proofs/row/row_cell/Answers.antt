use Rattle.std.proofs.Common.{rules}
use Rattle.bristol_rows.proofs.RowLaws.{cell_made}
use Rattle.bristol_rows.proofs.row.row_cell.Goals as goal

pub returns : goal.returns
returns c =
    cell_made c.args.out c.args.table c.args.inputs.count c.args.inputs.slots _ _ c.driver_of_slot.ensures c.driver_of_slot-2.ensures (search rules) (search rules)
    c.cell.result (rw (← c.min-count.ensures) c.cell.ensures)
