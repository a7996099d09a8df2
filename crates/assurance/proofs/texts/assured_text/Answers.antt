use lib.ListN.{length}
use Rattle.reading.specs.Areas.{read_text}
use Rattle.assurance.specs.Composed.{question}
use Rattle.assurance.proofs.Composing.{sizes_assured}
use Rattle.assurance.proofs.texts.assured_text.Goals as goal

pub returns-clause-assured : goal.returns-clause-assured
returns-clause-assured g c =
    let j = length c.args.joined.now in
    let n = length c.args.nodes.now in
    let m = length c.args.names.now in
    let o = length c.args.outputs.now in
    let said = read_text g.F.Format.lines c.args.text.now j n m o in
    let left = c.parse-read.ensures in
    sizes_assured said n o _ _ _ left.answer left.nodes_is left.outputs_is (question c.args.asked) _ _ _ c.run_read.ensures (g.met.F.Sound.sounds c.args.text.now j n m o)
