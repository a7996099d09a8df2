use mathlib.Core.Path.{sym, ap, ◌∙◌}
use native.Mathlib.Omega.{arith}
use Prim.Native.Nat.{◌+◌, ◌≤◌}
use mathlib.Core.List.{◌∷◌}
use lib.ListN.{length}
use Rattle.std.proofs.Common.{rules}
use Rattle.text.specs.Iterators.{kept_left}
use Rattle.text.proofs.IteratorLaws.{kept_skipped, kept_given, kept_over}
use Rattle.text.proofs.iterators.KeptLinesIterator.next.Goals as goal

pub returns-then-kept-ne0-clause-steps : goal.returns-then-kept-ne0-clause-steps
returns-then-kept-ne0-clause-steps c =
    let t = c.args.self.now.lines.text.now in
    let step = c.in-Some.ensures.steps in
    let inside : c.kept_line-kept.result.start + c.kept_line-kept.result.len ≤ length t = omega (arith, c.kept_line-kept.ensures.1, c.loop-line.invariant.0, ap length c.loop-line.invariant.0, step.is_line) in
    let given = kept_given t c.loop-line.self.lines c.next.new.self c.in-Some.line c.kept_line-kept.result c.loop-line.invariant.0 step.same_text step.first c.kept_line-kept.ensures.0 inside c.if-kept-ne0.true in
    sym c.loop-line.invariant.1 ∙ given ∙ ap (λ b. b ∷ kept_left (record { lines = c.next.new.self })) (sym c.bytes.ensures)

pub returns-then-kept-ne0-clause-goes : goal.returns-then-kept-ne0-clause-goes
returns-then-kept-ne0-clause-goes c =
    let t = c.args.self.now.lines.text.now in
    let step = c.in-Some.ensures.steps in
    let inside : c.kept_line-kept.result.start + c.kept_line-kept.result.len ≤ length t = omega (arith, c.kept_line-kept.ensures.1, c.loop-line.invariant.0, ap length c.loop-line.invariant.0, step.is_line) in
    let given = kept_given t c.loop-line.self.lines c.next.new.self c.in-Some.line c.kept_line-kept.result c.loop-line.invariant.0 step.same_text step.first c.kept_line-kept.ensures.0 inside c.if-kept-ne0.true in
    let shorter = ap length (sym c.loop-line.invariant.1 ∙ given) in search rules

pub loop-line-preserved : goal.loop-line-preserved
loop-line-preserved c =
    let t = c.args.self.now.lines.text.now in
    let step = c.in-Some.ensures.steps in
    let inside : c.kept_line-kept.result.start + c.kept_line-kept.result.len ≤ length t = omega (arith, c.kept_line-kept.ensures.1, c.loop-line.invariant.0, ap length c.loop-line.invariant.0, step.is_line) in
    let skipped = kept_skipped t c.loop-line.self.lines c.next.new.self c.in-Some.line c.kept_line-kept.result c.loop-line.invariant.0 step.same_text step.first c.kept_line-kept.ensures.0 inside c.if-kept-ne0.false in
    (step.same_text ∙ c.loop-line.invariant.0, sym skipped ∙ c.loop-line.invariant.1)

pub returns-clause-steps : goal.returns-clause-steps
returns-clause-steps c =
    let none = c.in_default.ensures.steps.first in
    (sym c.loop-line.invariant.1 ∙ kept_over c.loop-line.self.lines none.0, kept_over c.next.new.self none.1)
