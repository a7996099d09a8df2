use Prim.Native.Nat.{◌+◌}
use mathlib.Core.Path.{◌≡◌, refl, sym, ap, ◌∙◌}
use mathlib.Core.List.{◌∷◌}
use native.Mathlib.Omega.{arith}
use lib.ListN.{length}
use Rattle.std.proofs.Common.{rules}
use Rattle.laws.specs.Stretches.{stretch}
use Rattle.text.specs.Words.{words_between}
use Rattle.text.proofs.WordLaws.{next_made, first_word, no_word, next-is}
use Rattle.text.proofs.iterators.WordsIterator.next.Goals as goal

pub returns-then-start-end-clause-steps : goal.returns-then-start-end-clause-steps
unfolding stretch
returns-then-start-end-clause-steps c =
    let t = c.args.self.now.text.now in
    let made = next_made t c.args.self.now.at c.args.self.now.end _ _ (ap (λ n. c.args.self.now.at + n) c.skip_blanks.ensures.0) c.find_blank-end.ensures.0 in
    let none = no_word t c.args.self.now.at c.args.self.now.end _ made (omega arith) in
    record { first = (none, none); same_text = refl; same_end = refl; is_word = tt }

pub returns-clause-steps : goal.returns-clause-steps
unfolding stretch
returns-clause-steps c =
    let t = c.args.self.now.text.now in
    let word = c.between.result in
    let made = c.between.ensures ∙ next_made t c.args.self.now.at c.args.self.now.end _ _ (ap (λ n. c.args.self.now.at + n) c.skip_blanks.ensures.0) c.find_blank-end.ensures.0 in
    let some : word.len ≡ 0 → ⊥ = λ z. c.if-start-end.false (omega (arith, ap (λ w. w.len) c.between.ensures)) in
    let ends : word.start + word.len ≡ c.find_blank-end.result = omega (arith, ap (λ w. w.len) c.between.ensures, ap (λ w. w.start) c.between.ensures) in
    record {
      first = first_word t c.args.self.now.at c.args.self.now.end word made some ∙ ap (λ n. word ∷ words_between t n c.args.self.now.end) ends;
      same_text = refl;
      same_end = refl;
      is_word = (rw made (next-is t c.args.self.now.at c.args.self.now.end (rw made at some)), sym ends);
    }

pub returns-clause-goes : goal.returns-clause-goes
unfolding stretch
returns-clause-goes c =
    let t = c.args.self.now.text.now in
    let word = c.between.result in
    let made = c.between.ensures ∙ next_made t c.args.self.now.at c.args.self.now.end _ _ (ap (λ n. c.args.self.now.at + n) c.skip_blanks.ensures.0) c.find_blank-end.ensures.0 in
    let some : word.len ≡ 0 → ⊥ = λ z. c.if-start-end.false (omega (arith, ap (λ w. w.len) c.between.ensures)) in
    let ends : word.start + word.len ≡ c.find_blank-end.result = omega (arith, ap (λ w. w.len) c.between.ensures, ap (λ w. w.start) c.between.ensures) in
    let step = first_word t c.args.self.now.at c.args.self.now.end word made some ∙ ap (λ n. word ∷ words_between t n c.args.self.now.end) ends in
    let shorter = ap length step in search rules
