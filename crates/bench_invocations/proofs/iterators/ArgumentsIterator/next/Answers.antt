use mathlib.Core.Path.{refl, ap, ◌∙◌}
use native.Mathlib.Omega.{arith}
use lib.ListN.{length}
use Rattle.std.proofs.Common.{rules}
use Rattle.text.specs.Blanks.{trimmed}
use Rattle.bench_invocations.proofs.Parts.{arguments_over, argument_first}
use Rattle.bench_invocations.proofs.iterators.ArgumentsIterator.next.Goals as goal

pub returns-then-self-clause-steps : goal.returns-then-self-clause-steps
returns-then-self-clause-steps c =
    let a = c.args.self.now in
    let none = arguments_over a.text.now a.at a.end c.if-self.true in
    record { first = (none, none); same_text = refl; same_end = refl; is_argument = tt }

pub returns-clause-steps : goal.returns-clause-steps
returns-clause-steps c =
    let a = c.args.self.now in
    record {
      first = argument_first a.text.now a.at a.end c.skip_to_far-cut.result (omega arith) (omega arith) c.skip_to_far-cut.ensures.0 c.skip_to_far-cut.ensures.1 c.trim-argument.result (c.trim-argument.ensures.0 ∙ ap (trimmed a.text.now) c.between.ensures);
      same_text = refl;
      same_end = refl;
      is_argument = (omega (arith, c.trim-argument.ensures.2, c.skip_to_far-cut.ensures.1, ap (λ w. w.start) c.between.ensures, ap (λ w. w.len) c.between.ensures), omega (arith, c.skip_to_far-cut.ensures.0));
    }

pub returns-clause-goes : goal.returns-clause-goes
returns-clause-goes c =
    let a = c.args.self.now in
    let step = argument_first a.text.now a.at a.end c.skip_to_far-cut.result (omega arith) (omega arith) c.skip_to_far-cut.ensures.0 c.skip_to_far-cut.ensures.1 c.trim-argument.result (c.trim-argument.ensures.0 ∙ ap (trimmed a.text.now) c.between.ensures) in
    let shorter = ap length step in search rules
