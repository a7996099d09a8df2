use Rattle.laws.proofs.Bits.{set_bits}
use Rattle.cells.proofs.set_table_entry.Goals as goal

pub returns : goal.returns
returns c = set_bits 64 c.args.table c.args.j c.args.bit c.ranges.table.fits c.requires.0 c.requires.1
