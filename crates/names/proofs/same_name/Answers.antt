use Rattle.std.proofs.Common.{ap, ◌∙◌}
use Rattle.laws.specs.Stretches.{stretch, same_bytes}
use Rattle.names.proofs.Words.{equal_part}
use Rattle.names.proofs.same_name.Goals as goal

pub returns : goal.returns
returns c =
    let t = c.args.text.now in
    c.eq.ensures ∙ equal_part t c.args.start c.args.word.len c.bytes.result.now ∙ ap (same_bytes (stretch t c.args.start c.args.word.len)) c.bytes.ensures
