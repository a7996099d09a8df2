use Rattle.std.proofs.Common.{arith}
use Rattle.names.proofs.Hashes.{sum_bytes}
use Rattle.names.proofs.hashing.add_bytes.Goals as goal

pub returns : goal.returns
returns c =
    let w = c.to_le_bytes.ensures in
    sum_bytes c.args.sum c.args.word c.from.result c.from-2.result c.from-3.result c.from-4.result
    (omega (arith, rw w at c.from.ensures)) (omega (arith, rw w at c.from-2.ensures)) (omega (arith, rw w at c.from-3.ensures)) (omega (arith, rw w at c.from-4.ensures))
