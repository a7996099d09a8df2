use Prim.Native.Nat.{◌+◌, ◌≤◌}
use mathlib.Core.Path.{sym, ◌∙◌}
use native.Mathlib.Omega.{arith}
use lib.ListN.{length}
use Rattle.laws.proofs.Stretches.{length-stretch}
use Rattle.text.specs.Words.{bytes_of}
use Rattle.text.proofs.WriteLaws.{raw-none, raw-some}
use Rattle.text.proofs.joining.put_raw.Goals as goal

pub returns-then-kept-eq0 : goal.returns-then-kept-eq0
returns-then-kept-eq0 c =
    raw-none (bytes_of c.args.text.now c.args.line) (bytes_of c.args.text.now c.kept_before-kept.result) c.args.joined.now c.args.put.gathered c.args.put.out
    c.kept_before-kept.ensures.0
    (length-stretch c.args.text.now c.kept_before-kept.result.start c.kept_before-kept.result.len (omega (arith, c.kept_before-kept.ensures.1, c.requires.line_in_bounds.0)) ∙ c.if-kept-eq0.true)

pub put_line-requires : goal.put_line-requires
put_line-requires c =
    let i : c.kept_before-kept.result.start + c.kept_before-kept.result.len ≤ length c.args.text.now = omega (arith, c.kept_before-kept.ensures.1, c.requires.line_in_bounds.0) in
    let r = raw-some (bytes_of c.args.text.now c.args.line) (bytes_of c.args.text.now c.kept_before-kept.result) c.args.put.gathered c.kept_before-kept.ensures.0
    (λ z. c.if-kept-eq0.false (sym (length-stretch c.args.text.now c.kept_before-kept.result.start c.kept_before-kept.result.len i) ∙ z)) in
    rw (c.bytes.ensures) (rw r.0 at c.requires.from_in_bounds)

pub returns : goal.returns
returns c =
    let i : c.kept_before-kept.result.start + c.kept_before-kept.result.len ≤ length c.args.text.now = omega (arith, c.kept_before-kept.ensures.1, c.requires.line_in_bounds.0) in
    let r = raw-some (bytes_of c.args.text.now c.args.line) (bytes_of c.args.text.now c.kept_before-kept.result) c.args.put.gathered c.kept_before-kept.ensures.0
    (λ z. c.if-kept-eq0.false (sym (length-stretch c.args.text.now c.kept_before-kept.result.start c.kept_before-kept.result.len i) ∙ z)) in
    (rw (r.0, ← c.bytes.ensures) c.put_line.ensures.0, rw (r.1, ← c.bytes.ensures) c.put_line.ensures.1)
