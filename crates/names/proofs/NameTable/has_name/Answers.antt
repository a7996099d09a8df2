use Rattle.std.proofs.Common.{◌∙◌, arith}
use borrow.Author.Tests.{ne_eqb}
use Rattle.laws.specs.Stretches.{stretch}
use Rattle.laws.proofs.Stretches.{length-stretch}
use Rattle.names.specs.Chains.{entry, name_at}
use Rattle.names.proofs.Links.{key_length, other_key}
use Rattle.names.proofs.NameTable.has_name.Goals as goal

pub same_name-requires : goal.same_name-requires
same_name-requires c =
    let t = c.args.self.now in
    let w = stretch t.text.now c.args.word.start c.args.word.len in
    let len = length-stretch t.text.now c.args.word.start c.args.word.len c.requires.word_in_text in
    let same = key_length w _ (c.if-self-base.true ∙ c.requires.key_value) (omega (arith, len, t.in_order.sized)) in
    (omega (arith, len, same, t.in_order.inside c.args.k c.requires.k_in_table), c.requires.word_in_text)

pub returns-then-self-base : goal.returns-then-self-base
unfolding name_at entry
returns-then-self-base c =
    let t = c.args.self.now in
    let w = stretch t.text.now c.args.word.start c.args.word.len in
    let len = length-stretch t.text.now c.args.word.start c.args.word.len c.requires.word_in_text in
    let same = key_length w _ (c.if-self-base.true ∙ c.requires.key_value) (omega (arith, len, t.in_order.sized)) ∙ len in
    rw same c.same_name.ensures

pub returns-else-self-base : goal.returns-else-self-base
returns-else-self-base c =
    let t = c.args.self.now in
    ne_eqb _ _ c.if-self-base.false ∙ other_key _ _ _ _ (t.in_order.keyed c.args.k c.requires.k_in_table) c.requires.key_value c.if-self-base.false
