use Rattle.std.proofs.Common.{◌+◌, ◌-◌, length, refl, arith}
use mathlib.Core.Path.{◌∙◌}
use Rattle.std.proofs.lemmas.Slice.{put_mid-paste}
use Rattle.laws.proofs.Areas.{paste-stored}
use Rattle.circuit.proofs.areas.put.Goals as goal

pub returns : goal.returns
returns c =
    let n = length c.args.words.now in
    put_mid-paste c.args.at (c.args.at + n - c.args.at) c.args.area.now _ c.args.words.now n c.copy_from_slice.ensures.after (omega arith) refl
    ∙ paste-stored c.args.area.now c.args.at c.args.words.now n (omega arith)
