use Rattle.std.proofs.Common.{sym}
use Rattle.reading.specs.Holding.{entries_of}
use Rattle.bench_gates.proofs.Drivers.{find_constant, find_defined}
use Rattle.bench_gates.proofs.inputs.search_wire.Goals as goal

pub returns-in-Some : goal.returns-in-Some
returns-in-Some c = find_constant c.args.table.now.text.now c.args.word (entries_of c.args.table.now) c.in-Some.wire (sym c.in-Some.ensures)

pub returns-in-None : goal.returns-in-None
returns-in-None c = rw (find_defined c.args.table.now.text.now c.args.word (entries_of c.args.table.now) (sym c.in-None.ensures)) c.search.ensures
