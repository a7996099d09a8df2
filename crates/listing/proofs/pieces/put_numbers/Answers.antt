use Rattle.std.proofs.Common.{refl, ◌∙◌, arith}
use Rattle.listing.specs.Decimal.{decimal}
use Rattle.listing.proofs.PieceLaws.{words-none, words-next}
use Rattle.listing.proofs.pieces.put_numbers.Goals as goal

pub loop-n-init : goal.loop-n-init
loop-n-init g c = record { written = words-none decimal c.args.numbers.now (g.L.Line.written c.args.line.now); room = omega arith; place = refl; inside = omega arith }

pub loop-n-preserved : goal.loop-n-preserved
loop-n-preserved g c = record {
  written = words-next decimal c.args.numbers.now _ c.loop-n.n-index (g.L.Line.written c.args.line.now) _ _ c.loop-n-test.true c.loop-n.invariant.written c.put_number.ensures.written;
  room = omega arith;
  place = c.put_number.ensures.place ∙ c.loop-n.invariant.place;
  inside = omega arith;
}
