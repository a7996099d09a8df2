use Rattle.std.proofs.Common.{◌++◌, refl, ◌∙◌, ap, arith}
use Rattle.circuit.specs.Records.{wires_of, no_wire}
use Rattle.circuit.proofs.Places.{few_wires}
use Rattle.listing.specs.Listing.{wire_bytes, word}
use Rattle.listing.proofs.PieceLaws.{words-none, words-next}
use Rattle.listing.proofs.pieces.put_wires.Goals as goal

pub loop-k-init : goal.loop-k-init
loop-k-init g c = record { written = words-none wire_bytes (wires_of c.args.n) (g.L.Line.written c.args.line.now); room = omega arith; place = refl; inside = omega arith; count = c.wire_count-k-end.ensures.0 }

pub put_wire_word-requires : goal.put_wire_word-requires
put_wire_word-requires g c = omega (arith, few_wires c.args.n)

pub loop-k-preserved : goal.loop-k-preserved
loop-k-preserved g c = record {
  written = words-next wire_bytes (wires_of c.args.n) no_wire c.loop-k.k (g.L.Line.written c.args.line.now) _ _ (omega arith) c.loop-k.invariant.written (c.put_wire_word.ensures.written ∙ ap (λ w. g.L.Line.written c.loop-k.line ++ word (wire_bytes w)) c.wire_at.ensures);
  room = omega arith;
  place = c.put_wire_word.ensures.place ∙ c.loop-k.invariant.place;
  inside = omega arith;
  count = c.loop-k.invariant.count;
}

pub returns-clause-room : goal.returns-clause-room
returns-clause-room g c = omega (arith, few_wires c.args.n)
