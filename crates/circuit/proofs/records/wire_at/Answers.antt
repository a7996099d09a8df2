use Rattle.std.proofs.Common.{arith}
use Rattle.circuit.proofs.Places.{few_wires, wire_is}
use Rattle.circuit.proofs.records.wire_at.Goals as goal

pub bounds-n-k : goal.bounds-n-k
bounds-n-k c = let f = few_wires c.args.n in omega (arith, f)

pub offset_bounds-n-k : goal.offset_bounds-n-k
offset_bounds-n-k c = let f = few_wires c.args.n in record { fits = omega (arith, f) }

pub returns : goal.returns
returns c = wire_is c.args.n c.args.k c.requires
