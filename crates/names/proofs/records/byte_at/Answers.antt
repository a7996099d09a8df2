use Rattle.std.proofs.Common.{◌≤◌, length, sym, ◌∙◌, arith}
use Rattle.std.proofs.Math.ListN.{get_or-eq_default}
use Rattle.laws.specs.Stretches.{stretch}
use Rattle.laws.proofs.Stretches.{length-stretch, get_or-stretch}
use Rattle.names.proofs.records.byte_at.Goals as goal

pub returns-then-at-word : goal.returns-then-at-word
returns-then-at-word c = c.from.ensures ∙ sym (get_or-stretch c.args.text.now c.args.word.start c.args.word.len c.args.at c.if-at-word.true)

pub returns-else-at-word : goal.returns-else-at-word
returns-else-at-word c =
    let name = stretch c.args.text.now c.args.word.start c.args.word.len in
    let past : length name ≤ c.args.at = omega (arith, length-stretch c.args.text.now c.args.word.start c.args.word.len c.requires, c.if-at-word.false) in
    sym (get_or-eq_default name 0 past)
