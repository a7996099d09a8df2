use Rattle.laws.proofs.Bits.{get_bits}
use Rattle.cells.proofs.table_entry.Goals as goal

pub returns : goal.returns
returns c = get_bits c.args.table c.args.j
