use lib.ListN.{length}
use Rattle.bristol.specs.Bristol.{bristol_circuit}
use Rattle.assurance.specs.Composed.{question}
use Rattle.assurance.proofs.BristolSound.{sound, answer_is, nodes_are, outputs_are}
use Rattle.assurance.proofs.Composing.{sizes_assured}
use Rattle.assurance.proofs.texts.assured_bristol.Goals as goal

pub returns-clause-assured : goal.returns-clause-assured
returns-clause-assured c =
    let n = length c.args.nodes.now in
    let o = length c.args.outputs.now in
    let w = length c.args.wires.now in
    let t = c.args.text.now in
    let left = c.parse_bristol-read.ensures in
    sizes_assured (bristol_circuit t n o w) n o _ _ _ (answer_is t n o w _ _ _ _ left) (nodes_are t n o w _ _ _ _ left) (outputs_are t n o w _ _ _ _ left) (question c.args.asked) _ _ _ c.run_read.ensures (sound t n o w)
