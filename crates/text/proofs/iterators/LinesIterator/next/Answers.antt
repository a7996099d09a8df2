use mathlib.Core.Path.{refl, ap}
use native.Mathlib.Omega.{arith}
use lib.ListN.{length}
use Rattle.std.proofs.Common.{rules}
use Rattle.text.proofs.LineLaws.{line_next, lines_over}
use Rattle.text.proofs.iterators.LinesIterator.next.Goals as goal

pub returns-then-size-self-clause-steps : goal.returns-then-size-self-clause-steps
returns-then-size-self-clause-steps c =
    let none = lines_over c.args.self.now.text.now c.args.self.now.at (length c.args.self.now.text.now) (omega arith) in
    record { first = (none, none); same_text = refl; is_line = tt }

pub returns-clause-steps : goal.returns-clause-steps
returns-clause-steps c =
    let t = c.args.self.now.text.now in
    record {
      first = rw c.between-line.ensures (line_next t c.args.self.now.at (length t) c.skip_to_far-end.result (omega arith) (omega arith) c.skip_to_far-end.ensures.0);
      same_text = refl;
      is_line = (ap (λ w. w.start) c.between-line.ensures, omega (arith, ap (λ w. w.start) c.between-line.ensures), omega (arith, ap (λ w. w.start) c.between-line.ensures, ap (λ w. w.len) c.between-line.ensures), omega (arith, ap (λ w. w.start) c.between-line.ensures, ap (λ w. w.len) c.between-line.ensures));
    }

pub returns-clause-goes : goal.returns-clause-goes
returns-clause-goes c =
    let t = c.args.self.now.text.now in
    let step = line_next t c.args.self.now.at (length t) c.skip_to_far-end.result (omega arith) (omega arith) c.skip_to_far-end.ensures.0 in
    let shorter = ap length step in search rules
