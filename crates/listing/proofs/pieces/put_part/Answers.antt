use Rattle.std.proofs.Common.{◌≡◌, ◌+◌, ◌-◌, arith}
use Rattle.listing.proofs.PieceLaws.{clipped}
use Rattle.listing.proofs.pieces.put_part.Goals as goal

pub returns-clause-written : goal.returns-clause-written
returns-clause-written g c =
    let e : c.min-from.result + c.min.result - c.min-from.result ≡ c.min.result = omega arith in
    rw (c.put_bytes.ensures.written, ← clipped c.args.text.now c.args.start c.args.len, e, c.min.ensures, c.min-from.ensures)
