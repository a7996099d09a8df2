use mathlib.Core.Path.{◌≡◌, sym, ap, ◌∙◌}
use mathlib.Core.List.{List, []}
use Rattle.std.specs.Prelude.{Some}
use Rattle.std.specs.List.{fold}
use Rattle.std.proofs.Common.{rules}
use Rattle.std.proofs.lemmas.Fn.{fold_over}
use Rattle.text.specs.declared.words.Word.{Word}
use Rattle.text.specs.Iterators.{GivesWord, words_left}
use Rattle.text.proofs.IteratorLaws.{words_given}
use Rattle.text.proofs.WordLaws.{each_word}
use Rattle.cover.specs.declared.gate.Gate.{Gate}
use Rattle.cover.specs.Gates.{GateWords, words_seen, with_word}
use Rattle.cover.proofs.GateLaws.{fold_snoc, gate_is}
use Rattle.cover.proofs.gates.gate_words.Goals as goal

pub returns : goal.returns
returns c =
    let first : GateWords = record { out = c.in_ok-next.field-0; inputs = Some [] } in
    let told = fold_over GivesWord (λ x. x) _ (λ (ys : List Word) (g : Gate). words_seen g ≡ fold with_word first ys) _
    (λ ys a y b f' j k. let e : words_seen b ≡ with_word (words_seen a) y = search rules in (e ∙ ap (λ (g : GateWords). with_word g y) j ∙ sym (fold_snoc first ys y), search rules))
    c.next.new.self (words_left c.next.new.self) c.of-first.result c.fold.result (words_given c.next.new.self).runs c.of-first.ensures c.fold.ensures.ran in
    gate_is c.args.words.text.now c.args.words.at c.args.words.end _ _ _ _ c.in_ok-next.ensures.steps.first (each_word c.args.words.text.now c.args.words.at c.args.words.end) told
