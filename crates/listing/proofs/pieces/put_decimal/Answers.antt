use Rattle.std.proofs.Common.{arith}
use Rattle.listing.proofs.Decimals.{decimal_is}
use Rattle.listing.proofs.pieces.put_decimal.Goals as goal

pub returns-clause-written : goal.returns-clause-written
returns-clause-written g c = rw (decimal_is c.args.n (omega arith), ← c.format.ensures.text, ← c.as_bytes.ensures.value) c.extend.ensures.written
