use Rattle.circuit.specs.declared.records.TheConstants.{OUTPUT_WORDS}
use native.Mathlib.Omega.{arith}
use lib.Dec.{lit<}
use lib.ListN.{length}
use Rattle.reading.specs.Holding.{words_of}
use Rattle.reading.proofs.Steps.{in_more}
use Rattle.reading.proofs.Storing.{room_of, more_words, more_words_clean}
use Rattle.reading.proofs.outputs.add_output.Goals as goal

pub returns-clause-area : goal.returns-clause-area
returns-clause-area c =
    let old = c.args.outputs.now in
    let hold = c.requires.area in
    let l = more_words old c.put.new.area c.args.count c.args.word c.put.ensures c.put.auto.area hold.clean in
    record {
      room = omega (arith, c.put.auto.area, room_of OUTPUT_WORDS (length old) c.args.count (lit< tt) (omega (arith, c.records_in.ensures, c.if-records_in-count.false)));
      clean = more_words_clean old c.put.new.area c.args.count c.args.word c.put.ensures c.put.auto.area hold.clean;
      inside = in_more (length c.args.text.now) (words_of old c.args.count) _ c.args.word l hold.inside c.requires.word_in_text;
    }
