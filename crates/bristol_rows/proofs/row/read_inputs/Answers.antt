use Rattle.bristol_rows.specs.Words.{words_left}
use Rattle.bristol_rows.proofs.InputLaws.{got_more}
use Rattle.bristol_rows.proofs.row.read_inputs.Goals as goal

pub loop-i-preserved : goal.loop-i-preserved
loop-i-preserved c =
    got_more c.args.n c.args.wires.now (words_left c.args.words.now) c.loop-i.i (words_left c.loop-i.words) c.loop-i.slots c.loop-i.invariant c.loop-i-test.true
    _ _ c.in_ok-next.ensures.steps _ c.parse_usize.ensures c.add_input-slots.result c.add_input-slots.ensures
